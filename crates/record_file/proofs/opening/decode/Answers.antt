use Rattle.std.proofs.Common.{◌≡◌, Err, ◌+◌, ◌<◌, inl, inr, ℕ, List, ◌∷◌, length, take, get_or, ap, ◌∙◌, sym, arith}
use Rattle.std.proofs.lemmas.Result.{IfOk-weaker}
use Rattle.ritas_base.specs.Bytes.{IsBytes}
use Rattle.record_file.specs.Form.{Form, first_gate}
use Rattle.record_file.specs.Records.{IsUnmade}
use Rattle.record_file.specs.Reading.{AtGate, HasFront, records_read}
use Rattle.record_file.specs.declared.fault.RecordFault.{RecordFault}
use Rattle.record_file.specs.declared.fault.RecordFault.TheVariants as faults
use Rattle.record_file.proofs.Walking.{broken_there, has_front, opens_there}
use Rattle.record_file.proofs.opening.decode.Goals as goal

is_made : (form : Form) (file : List ℕ) → first_gate form < length file → get_or file 0 0 ≡ 1 → IsUnmade form file → ⊥
is_made form file long one (inl short) = absurd (omega (arith, long, short))
is_made form file long one (inr other) = other one

-- what was read stands behind the head that was found
front_there : (form : Form) (head file : List ℕ) (at : ℕ) → IsBytes file → length head ≡ form.head_length → take (length head + 1) file ≡ 1 ∷ head → first_gate form < length file → AtGate form file at (records_read form file)
    → HasFront form head file at (records_read form file)
front_there form head file at fits size same long here =
    has_front form head file at (records_read form file) fits (ap (λ (k : ℕ). take (k + 1) file) (sym size) ∙ same) long here

pub returns-in-Ok-clause-opens : goal.returns-in-Ok-clause-opens
returns-in-Ok-clause-opens c =
    let form = c.args.form.now in
    let head = c.args.head.now in
    let file = c.args.file.now in
    let fits : IsBytes file = λ i. omega (arith, c.type_inv.file i) in
    IfOk-weaker c.closed_gate.result _ _ (λ at found.
    let front = front_there form head file at fits c.requires.head c.in-Ok.ensures.same c.requires.long found.0 in
    (opens_there form head file at (records_read form file) front c.requires.short found.2, front.place, omega (arith, found.1, c.requires.short))) c.closed_gate.ensures.found

pub returns-in-Ok-clause-foreign : goal.returns-in-Ok-clause-foreign
returns-in-Ok-clause-foreign c = λ p is. absurd ((c.closed_gate.ensures.others p).0 is)

pub returns-in-Ok-clause-broken : goal.returns-in-Ok-clause-broken
returns-in-Ok-clause-broken c = λ p is.
    let form = c.args.form.now in
    let head = c.args.head.now in
    let file = c.args.file.now in
    let fits : IsBytes file = λ i. omega (arith, c.type_inv.file i) in
    let b = c.closed_gate.ensures.broken p is in
    broken_there form head file p (records_read form file) (front_there form head file p fits c.requires.head c.in-Ok.ensures.same c.requires.long b.0) c.requires.short c.requires.made b.1 b.2

pub returns-in-Ok-clause-others : goal.returns-in-Ok-clause-others
returns-in-Ok-clause-others c = λ p. let others = c.closed_gate.ensures.others p in (others.1, others.2, others.3)

pub returns-in-Err-clause-foreign : goal.returns-in-Err-clause-foreign
returns-in-Err-clause-foreign c = λ p is.
    let same : c.in-Err.fault ≡ faults.Foreign p = cc is in
    let h = c.in-Err.ensures.foreign p (ap (λ (x : RecordFault). Err x) same) in
    record {
      made = is_made c.args.form.now c.args.file.now c.requires.long c.requires.made;
      size = c.requires.short;
      within = (h.0, omega (arith, h.1, c.requires.head));
      before = h.2;
      differs = h.3;
    }

pub returns-in-Err-clause-broken : goal.returns-in-Err-clause-broken
returns-in-Err-clause-broken c = λ p is.
    let same : c.in-Err.fault ≡ faults.Broken p = cc is in
    absurd ((c.in-Err.ensures.others p).0 (ap (λ (x : RecordFault). Err x) same))

pub returns-in-Err-clause-others : goal.returns-in-Err-clause-others
returns-in-Err-clause-others c = λ p.
    let others = c.in-Err.ensures.others p in (
      λ is. let same : c.in-Err.fault ≡ faults.Full p = cc is in others.1 (ap (λ (x : RecordFault). Err x) same),
      λ is. let same : c.in-Err.fault ≡ faults.Disk = cc is in others.2 (ap (λ (x : RecordFault). Err x) same),
      λ is. let same : c.in-Err.fault ≡ faults.Mem = cc is in others.3 (ap (λ (x : RecordFault). Err x) same),
    )
