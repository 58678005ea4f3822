-- In every run what correct replicas deliver is one value, and a correct origin's is what it started.
use Rattle.std.specs.Prelude.{◌≡◌, ℕ, List, Option, Some, None, refl}
use Rattle.std.proofs.Common.{◌∙◌, ap}
use Rattle.ritas_base.specs.declared.item.Kind.{Kind}
use Rattle.ritas_base.specs.declared.item.Kind.TheVariants as kinds
use Rattle.ritas_base.specs.declared.item.Kind.TheVariants.{Init}
use Rattle.ritas_base.specs.History.{Call, first}
use Rattle.ritas_base.specs.Messages.{Place}
use Rattle.ritas_base.specs.Tags.{Tags}
use Rattle.layer_api.specs.OneValue.{OneValue}
use Rattle.reliable_bcast.specs.Bracha.{bracha, due_by_value}
use Rattle.reliable_bcast.specs.Laws.Due.{value_due, due_is, listed_has}
use Rattle.reliable_bcast.specs.Laws.Voted.{IsVotedAt, IsVoted, out_echoed, echoed_same, echoed_started}
use Rattle.reliable_bcast.specs.Digests.{echo_of}

-- ECHO and READY carry the value itself
abbrev itself : Tags → List ℕ → List ℕ
itself tags m = m

echo_itself : (tags : Tags) (o : Option (List ℕ)) → echo_of (itself tags) o ≡ o
echo_itself tags None = refl
echo_itself tags (Some m) = refl

as_voted : (at : Place) (tags : Tags) (h : List Call) (kind : Kind) (v : List ℕ) → value_due at h kind ≡ Some v → IsVotedAt itself at tags h kind v
as_voted at tags h kinds.Init v e = e
as_voted at tags h kinds.Echo v e = echo_itself tags (first h at.slot.origin Init) ∙ e
as_voted at tags h kinds.Ready v e = e
as_voted at tags h kinds.Send v e = tt
as_voted at tags h kinds.Hashes v e = tt
as_voted at tags h kinds.Column v e = tt
as_voted at tags h kinds.Want v e = tt
as_voted at tags h kinds.Value v e = tt

votes : IsVoted itself bracha
votes = record { due = λ at tags h m there. as_voted at tags h m.kind m.value (due_is at h m (listed_has (due_by_value at h) m there)).value }

pub one_value_of_bracha : OneValue bracha
one_value_of_bracha =
    record {
      agree = λ p s is_correct tags xs enough digests run clear i j v u ci cj e d.
          echoed_same itself bracha votes p s is_correct tags enough xs run v u
          (out_echoed itself bracha votes p s is_correct tags enough xs run i v e) (out_echoed itself bracha votes p s is_correct tags enough xs run j u d);
      genuine = λ p s is_correct tags xs enough digests run clear i v ci co e.
          let of = echoed_started itself bracha votes p s is_correct tags enough xs run v co (out_echoed itself bracha votes p s is_correct tags enough xs run i v e) in
          of.was_started ∙ ap Some of.made;
    }
