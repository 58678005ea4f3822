use Rattle.std.proofs.Common.{◌≡◌, List, ℕ, Option, Some, None, true, false, sym, ap, ◌∙◌}
use Rattle.std.proofs.lemmas.Bool.{eqb-true}
use Rattle.ritas_base.specs.declared.item.Kind.{Kind}
use Rattle.ritas_base.specs.declared.item.Kind.TheVariants.{Column, Value}
use Rattle.ritas_base.specs.declared.item.Msg.{Msg}
use Rattle.ritas_base.specs.Messages.{Place, reaches}
use Rattle.ritas_base.specs.History.{Call}
use Rattle.ritas_base.specs.Tags.{Tags}
use Rattle.frame_codec.specs.Body.{is_of_form}
use Rattle.reliable_bcast.specs.Digests.{value_for}
use Rattle.reliable_bcast.specs.Laws.DigestDue.{IsDigestDue, ToAll, ToOne, due_is, due_value}
use Rattle.reliable_bcast.proofs.laws.one_due_by_digest.Goals as goal

same_value : (o : Option (List ℕ)) (v w a b : List ℕ) → o ≡ Some v → o ≡ Some w → a ≡ v → b ≡ w → a ≡ b
same_value o v w a b is also at_a at_b = let both : Some v ≡ Some w = sym is ∙ also in let e : v ≡ w = cc both in at_a ∙ e ∙ sym at_b

-- nothing is due to all with VALUE
none_to_all : (at : Place) (tags : Tags) (h : List Call) (kind : Kind) (v : List ℕ) → kind ≡ Value → due_value at tags h kind ≡ Some v → ⊥
none_to_all at tags h kind v is due = let clash : None ≡ Some v = sym (ap (due_value at tags h) is) ∙ due in cc clash

one : (at : Place) (tags : Tags) (h : List Call) (m o : Msg) (k : ℕ) → IsDigestDue at tags h m → IsDigestDue at tags h o → reaches m.to k ≡ true → reaches o.to k ≡ true → m.kind ≡ o.kind → m.value ≡ o.value
one at tags h m o k (ToAll a v is due of) (ToAll b w also more form) to_m to_o same =
    let kinds : a ≡ b = sym (ap (λ (x : Msg). x.kind) is) ∙ same ∙ ap (λ (x : Msg). x.kind) also in
    same_value (due_value at tags h b) v w m.value o.value (sym (ap (due_value at tags h) kinds) ∙ due) more (ap (λ (x : Msg). x.value) is) (ap (λ (x : Msg). x.value) also)
one at tags h m o k (ToAll a v is due of) (ToOne j w within also more) to_m to_o same =
    absurd (none_to_all at tags h a v (sym (ap (λ (x : Msg). x.kind) is) ∙ same ∙ ap (λ (x : Msg). x.kind) also) due)
one at tags h m o k (ToOne i v within is due) (ToAll b w also more form) to_m to_o same =
    absurd (none_to_all at tags h b w (sym (ap (λ (x : Msg). x.kind) also) ∙ sym same ∙ ap (λ (x : Msg). x.kind) is) more)
one at tags h m o k (ToOne i v within is due) (ToOne j w also_in also more) to_m to_o same =
    let at_m : i ≡ k = eqb-true i k (sym (ap (λ (x : Msg). reaches x.to k) is) ∙ to_m) in
    let at_o : j ≡ k = eqb-true j k (sym (ap (λ (x : Msg). reaches x.to k) also) ∙ to_o) in
    same_value (value_for at tags h k) v w m.value o.value (sym (ap (value_for at tags h) at_m) ∙ due) (sym (ap (value_for at tags h) at_o) ∙ more) (ap (λ (x : Msg). x.value) is) (ap (λ (x : Msg). x.value) also)

no_column : (at : Place) (tags : Tags) (h : List Call) (m : Msg) → IsDigestDue at tags h m → m.kind ≡ Column → ⊥
no_column at tags h m (ToAll a v is due of) column =
    let kind : a ≡ Column = sym (ap (λ (x : Msg). x.kind) is) ∙ column in
    let clash : false ≡ true = sym (ap (is_of_form 3) kind) ∙ of in cc clash
no_column at tags h m (ToOne k v within is due) column = let clash : Value ≡ Column = sym (ap (λ (x : Msg). x.kind) is) ∙ column in cc clash

pub returns : goal.returns
returns c = record {
  one = λ at tags h m o k hm ho to_m to_o same not. one at tags h m o k (due_is at tags h m hm) (due_is at tags h o ho) to_m to_o same;
  columns = λ at tags mode h m o k slot good hm ho to_m to_o is also. absurd (no_column at tags h m (due_is at tags h m hm) is);
}
