-- Where the replicas of a world agree, the lines of its vectors text do.
use Rattle.std.specs.Prelude.{◌≡◌, ◌≢◌, ℕ, List, ◌++◌, Option, Some, None, refl}
use Rattle.std.proofs.Common.{sym, ◌∙◌, ap}
use Rattle.ritas_base.specs.declared.event.Event.{Event}
use Rattle.layer_api.specs.Service.{LastVector, Decision, Bit, Nothing, Value, Spent, Ending, Undecided, Over, Decided}
use Rattle.world_model.specs.declared.audit.Audit.{Audit}
use Rattle.world_model.specs.declared.audit.Audit.TheVariants.{Holds}
use Rattle.world_model.specs.Agree.{Agree, outcome_of, last_vector_at}
use Rattle.world_model.specs.Audit.{audit_of}
use Rattle.world_model.specs.World.{Setting}
use Rattle.schedule_replay.specs.Report.{audit_line}
use Rattle.schedule_replay.specs.Vectors.{SaysSpent, SaysVector, last_says, line_says, says_at, vector_lines, vectors_on, VectorsAgree}

unspent_says : (e : Ending) (o : Option LastVector) → e ≢ Decided Spent → line_says e o ≡ last_says o
unspent_says (Decided Spent) o never = absurd (never refl)
unspent_says (Decided (Bit b)) o never = refl
unspent_says (Decided Nothing) o never = refl
unspent_says (Decided (Value v)) o never = refl
unspent_says Undecided o never = refl
unspent_says Over o never = refl

not_spent : (o : Option LastVector) → last_says o ≢ SaysSpent
not_spent None = λ e. cc
not_spent (Some x) = λ e. cc

is_last : (o : Option LastVector) (x : LastVector) → last_says o ≡ SaysVector x → o ≡ Some x
is_last None x e = absurd cc
is_last (Some y) x e = cc

pub vectors_agree : (w : Setting) (es : List Event) → audit_of w es ≡ Holds → Agree w es → VectorsAgree w.is_correct w.numbers.n (vectors_on w es)
unfolding vectors_on
vectors_agree w es holds agree = record {
  says = says_at w es;
  lines = ap (λ (a : Audit). vector_lines w.is_correct w.numbers.n (says_at w es) ++ audit_line a) holds;
  unspent = λ i correct spent. not_spent (last_vector_at w es i) (sym (unspent_says (outcome_of w es i) (last_vector_at w es i) (agree.unspent i correct)) ∙ spent);
  alike = λ i j x y left right p q same.
      let one = unspent_says (outcome_of w es i) (last_vector_at w es i) (agree.unspent i left) in
      let two = unspent_says (outcome_of w es j) (last_vector_at w es j) (agree.unspent j right) in
      let equal = agree.last_vectors i j x y left right (is_last (last_vector_at w es i) x (sym one ∙ p)) (is_last (last_vector_at w es j) y (sym two ∙ q)) same in
      p ∙ (ap SaysVector equal ∙ sym q);
}
