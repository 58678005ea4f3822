use Rattle.std.proofs.Common.{◌≡◌, ◌≢◌, ℕ, ◌-◌, Bool, false, refl, sym, ◌∙◌, ap, ap₂, arith, if◌then◌else◌}
use Rattle.ritas_base.specs.declared.plan.Attack.{Attack}
use Rattle.ritas_base.specs.declared.plan.Attack.TheVariants.{Absent, Silent, TwoFace, Flip, Garbage}
use Rattle.schedule_plan.specs.Plans.{is_absent}
use Rattle.schedule_plan.proofs.header.correct_of.Goals as goal

attacked : (a : Attack) → a ≢ Absent → is_absent a ≡ false
attacked Absent other = absurd (other refl)
attacked Silent other = refl
attacked TwoFace other = refl
attacked Flip other = refl
attacked Garbage other = refl

pub returns-in_default : goal.returns-in_default
returns-in_default c =
    let p = c.args.plan.now in
    record {
      count =
          ap₂ (λ (n f : ℕ). n - f) c.n-in_default.ensures.value c.f.ensures.value
          ∙ sym (ap (λ (b : Bool). if b then p.p.n else p.p.n - p.p.f) (attacked p.attack c.in_default.not-Absent));
      most = omega (arith, c.n-in_default.ensures.session.most);
    }
