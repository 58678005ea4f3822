-- What is shown of a world where its text was written whole.
use Rattle.std.proofs.Common.{◌≡◌, ℕ, Bool, true, List, ◌++◌, Result, Ok, sym, ◌∙◌, ap, subst}
use Rattle.outside.specs.Writing.{Writes}
use Rattle.ritas_base.specs.declared.event.Event.{Event}
use Rattle.ritas_base.specs.declared.what.What.{What}
use Rattle.ritas_base.specs.declared.what.What.TheVariants.{Vectors}
use Rattle.schedule_file.specs.declared.header.Header.{Header}
use Rattle.world_model.specs.declared.audit.Audit.{Audit}
use Rattle.world_model.specs.declared.audit.Audit.TheVariants.{Holds}
use Rattle.world_model.specs.Agree.{Agree}
use Rattle.world_model.specs.Audit.{audit_of}
use Rattle.world_model.specs.World.{Setting}
use Rattle.schedule_replay.specs.declared.cut.Cut.{Cut}
use Rattle.schedule_replay.specs.declared.end.ReplayEnd.TheVariants.{Done}
use Rattle.schedule_replay.specs.Replay.{text_on, ShowsWorld}
use Rattle.schedule_replay.specs.Vectors.{vectors_on, VectorsAgree}
use Rattle.schedule_replay.proofs.VectorLaws.{vectors_agree}

same_audit : (a b : Audit) → Done a ≡ Done b → a ≡ b
same_audit a b e = cc

lines_agree : (what : What) (h : Header) (w : Setting) (es : List Event) → audit_of w es ≡ Holds → Agree w es → what ≡ Vectors
    → VectorsAgree w.is_correct w.numbers.n (text_on what h w es)
lines_agree what h w es holds agree asked =
    subst (λ (v : What). VectorsAgree w.is_correct w.numbers.n (text_on v h w es)) (sym asked) (vectors_agree w es holds agree)

pub shows_done : {K : Type 0} (tells : Bool) (taken : K → List ℕ) (old new : K) (what : What) (h : Header) (w : Setting) (es : List Event) (audit : Audit)
    (before after : ℕ) (result : Result (Unit {0}) Cut) (u : Unit {0}) (failed : Type 0)
    → Writes (text_on what h w es) tells (taken old) (taken new) before after result failed → result ≡ Ok u
    → audit ≡ audit_of w es → (audit ≡ Holds → Agree w es) → ShowsWorld tells taken old new what (Done audit) h w es
shows_done tells taken old new what h w es audit before after result u failed writes done is agree = record {
  answer = is;
  whole = λ told a e. rw done at (writes.whole told);
  front = writes.front;
  agree = λ e. agree (same_audit audit Holds e);
  vectors = λ asked e.
      let holds = same_audit audit Holds e in
      lines_agree what h w es (sym is ∙ holds) (agree holds) asked;
}
