-- The laws of a single value, over the rules of reliable broadcast.
use Rattle.std.specs.Prelude.{◌≡◌, true, not, refl, List, [], ◌∷◌, ◌++◌}
use Rattle.std.proofs.Common.{ap, sym, ◌∙◌, subst, inl, inr}
use Rattle.std.proofs.lemmas.Bool.{or_cases}
use Rattle.ritas_base.specs.declared.item.Kind.{Kind}
use Rattle.ritas_base.specs.declared.item.Kind.TheVariants as kinds
use Rattle.ritas_base.specs.declared.item.Kind.TheVariants.{Init, Echo, Ready, Hashes, Column}
use Rattle.ritas_base.specs.declared.item.To.{To}
use Rattle.ritas_base.specs.declared.item.Msg.{Msg}
use Rattle.ritas_base.specs.History.{Call, Start, started, first}
use Rattle.ritas_base.specs.Messages.{Place, kind_eq, has, to_all}
use Rattle.ritas_base.specs.MessagesLaws.{has_append}
use Rattle.ritas_base.specs.Shortest.{at_shortest_stays}
use Rattle.frame_codec.specs.Body.{is_of_form}
use Rattle.layer_api.specs.OneValue.{ValueLaws, IsOnce, IsReceiver}
use Rattle.layer_api.specs.OnceLaws.{once_append, once_to_all, kinds_apart}
use Rattle.layer_api.specs.EntryLaws.{EntryLaws}
use Rattle.layer_api.specs.Runs.{Has}
use Rattle.reliable_bcast.specs.Bracha.{bracha, is_reliable, some_carried, ready_value, due_by_value}
use Rattle.reliable_bcast.specs.Laws.Steps.{out_quiet, step_start}
use Rattle.reliable_bcast.specs.Laws.Due.{due_more, due_is, listed_has}
use Rattle.reliable_bcast.specs.Laws.Good.{due_good, out_good}

at_first : (kind : Kind) → is_of_form bracha.form kind ≡ true → true ≡ not (kind_eq kind Column)
at_first kinds.Init e = refl
at_first kinds.Echo e = refl
at_first kinds.Ready e = refl
at_first kinds.Send e = absurd (cc)
at_first kinds.Hashes e = absurd (cc)
at_first kinds.Column e = absurd (cc)
at_first kinds.Want e = absurd (cc)
at_first kinds.Value e = absurd (cc)

-- what is due is of three kinds, each to all and of one value
due_once : (at : Place) (h : List Call) → IsOnce (due_by_value at h)
due_once at h =
    let s = at.slot in
    let inits = to_all s Init (started h) in
    let echoes = to_all s Echo (first h s.origin Init) in
    let readies = to_all s Ready (ready_value at.numbers h) in
    once_append (inits ++ echoes) readies
    (once_append inits echoes (once_to_all s Init (started h)) (once_to_all s Echo (first h s.origin Init))
    (λ m e. kinds_apart s Init Echo (started h) (first h s.origin Init) m refl e))
    (once_to_all s Ready (ready_value at.numbers h))
    (λ m e.
    elim (or_cases (has inits m) (has echoes m) (sym (has_append inits echoes m) ∙ e)) [
      | inl a ↦ kinds_apart s Init Ready (started h) (ready_value at.numbers h) m refl a
      | inr b ↦ kinds_apart s Echo Ready (first h s.origin Init) (ready_value at.numbers h) m refl b
    ])

pub value_laws_of_bracha : ValueLaws bracha
value_laws_of_bracha =
    record {
      out_nothing = λ at tags. refl;
      out_start = λ at tags h v. out_quiet at h (Start v) (λ k. refl);
      out_stays = λ at tags h c v e. at_shortest_stays (some_carried at.numbers) (c ∷ []) h v e;
      due_nothing = λ at tags. refl;
      due_stays = λ at tags h c m e. due_more at h c m e;
      due_slot = λ at tags h m e. ap (λ (x : Msg). x.slot) (due_is at h m e).whole;
      due_kind = λ at tags h m there. (due_is at h m (listed_has (due_by_value at h) m there)).reliable;
      due_to = λ at tags h m origin there. subst (λ (to : To). IsReceiver at.numbers.n to) (ap (λ (x : Msg). x.to) (sym (due_is at h m (listed_has (due_by_value at h) m there)).whole)) tt;
      due_once = λ at tags h taken first_ones. due_once at h;
      due_good = λ at tags mode h m digests of_slot good there. due_good at mode h m of_slot good (due_is at h m (listed_has (due_by_value at h) m there));
      start_alone = λ at tags h v new. sym (step_start at tags h v new).said ∙ (step_start at tags [] v refl).said;
      out_good = λ at tags mode h v of_slot good e. out_good at mode h v of_slot good e;
      repeats_nothing = λ at tags i. refl;
      repeats_is = λ at tags h i other. refl;
      ready_stays = λ at tags h c i e. refl;
      ready_nothing = λ at tags i has_it. at_first i.kind has_it;
    }

-- no kind of reliable broadcast is HASHES or a column
reliable_only : (kind : Kind) → is_reliable kind ≡ true → (kind ≡ Hashes → ⊥) × (kind ≡ Column → ⊥)
reliable_only kinds.Init e = (λ (s : kinds.Init ≡ Hashes). absurd (cc), λ (s : kinds.Init ≡ Column). absurd (cc))
reliable_only kinds.Echo e = (λ (s : kinds.Echo ≡ Hashes). absurd (cc), λ (s : kinds.Echo ≡ Column). absurd (cc))
reliable_only kinds.Ready e = (λ (s : kinds.Ready ≡ Hashes). absurd (cc), λ (s : kinds.Ready ≡ Column). absurd (cc))
reliable_only kinds.Send e = absurd (cc)
reliable_only kinds.Hashes e = absurd (cc)
reliable_only kinds.Column e = absurd (cc)
reliable_only kinds.Want e = absurd (cc)
reliable_only kinds.Value e = absurd (cc)

-- nothing that is due is HASHES or a column
only_values : (at : Place) (h : List Call) (m : Msg) → Has (due_by_value at h) m → (m.kind ≡ Hashes → ⊥) × (m.kind ≡ Column → ⊥)
only_values at h m there = reliable_only m.kind (due_is at h m (listed_has (due_by_value at h) m there)).reliable

pub entry_laws_of_bracha : EntryLaws bracha
entry_laws_of_bracha =
    record {
      hashes = λ at tags h m whole there kind k below. absurd ((only_values at h m there).0 kind);
      columns = λ at tags mode h m of_slot good there kind echoer entry row. absurd ((only_values at h m there).1 kind);
      met_taken = λ at tags h a there. absurd there;
      met_stays = λ at tags h c a there. there;
    }
