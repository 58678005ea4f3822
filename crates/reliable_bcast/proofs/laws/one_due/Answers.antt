use Rattle.std.proofs.Common.{◌≡◌, List, Some, true, false, sym, ap, ◌∙◌}
use Rattle.ritas_base.specs.declared.item.Kind.TheVariants.{Column}
use Rattle.ritas_base.specs.declared.item.Msg.{Msg}
use Rattle.ritas_base.specs.Messages.{Place}
use Rattle.ritas_base.specs.History.{Call}
use Rattle.layer_api.specs.Runs.{Has}
use Rattle.reliable_bcast.specs.Bracha.{due_by_value, is_reliable}
use Rattle.reliable_bcast.specs.Laws.Due.{IsValueDue, value_due, due_is, listed_has}
use Rattle.reliable_bcast.proofs.laws.one_due.Goals as goal

due : (at : Place) (h : List Call) (m : Msg) → Has (due_by_value at h) m → IsValueDue at h m
due at h m there = due_is at h m (listed_has (due_by_value at h) m there)

one : (at : Place) (h : List Call) (m o : Msg) → IsValueDue at h m → IsValueDue at h o → m.kind ≡ o.kind → m.value ≡ o.value
one at h m o a b same =
    let both : Some m.value ≡ Some o.value = sym a.value ∙ ap (value_due at h) same ∙ b.value in cc both

no_column : (at : Place) (h : List Call) (m : Msg) → IsValueDue at h m → m.kind ≡ Column → ⊥
no_column at h m a is = let clash : false ≡ true = sym (ap is_reliable is) ∙ a.reliable in cc clash

pub returns : goal.returns
returns c = record {
  one = λ at tags h m o k hm ho to_m to_o same not. one at h m o (due at h m hm) (due at h o ho) same;
  columns = λ at tags mode h m o k slot good hm ho to_m to_o is also. absurd (no_column at h m (due at h m hm) is);
}
