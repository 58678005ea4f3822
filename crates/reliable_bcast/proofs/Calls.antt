-- What the calls on the state promise, for all calls that the state stands for.
use Rattle.std.proofs.Common.{◌≡◌, ◌∙◌, ap, subst, sym, ◌++◌, List, ℕ, Bool, true, false, Some, inl, inr, refl}
use Rattle.std.specs.Prelude.{Option, Result, Ok, Err, OnOk, not, is_err}
use Rattle.std.proofs.lemmas.Bool.{both_ways}
use Rattle.ritas_base.specs.declared.bytes.Mem.{Mem}
use Rattle.ritas_base.specs.declared.item.Kind.TheVariants.{Init}
use Rattle.ritas_base.specs.declared.item.Item.{Item}
use Rattle.ritas_base.specs.declared.item.Msg.{Msg}
use Rattle.ritas_base.specs.Messages.{Place, to_all}
use Rattle.ritas_base.specs.History.{Call, Take}
use Rattle.ritas_base.specs.Tags.{Tags}
use Rattle.layer_api.specs.declared.broadcast.Heard.{Heard}
use Rattle.layer_api.specs.declared.broadcast.Heard.TheVariants.{Took, Repeat}
use Rattle.layer_api.specs.Broadcast.{Tagging, MayTake}
use Rattle.layer_api.specs.BroadcastCalls.{CastShown, Started, Takes}
use Rattle.reliable_bcast.specs.declared.rb.Rb.{Rb}
use Rattle.reliable_bcast.specs.Bracha.{bracha}
use Rattle.reliable_bcast.specs.State.{state_of, after_item, says_item, counts_item, HearsByValue}
use Rattle.reliable_bcast.specs.Laws.Steps.{IsValueStep, step_take, step_start, counts_is}

abbrev pub Stands : Rb → Place → Tags → List Call → Type 0
Stands b at tags h = b ≡ state_of at h

abbrev pub is_live : Rb → Bool
is_live b = b.live

abbrev pub shown : Rb → CastShown
shown b = record { out = b.delivered; ready = λ i. true }

abbrev delivered : Rb → Option (List ℕ)
delivered b = b.delivered

step : (b : Rb) (i : Item) (at : Place) (tags : Tags) (h : List Call) → b ≡ state_of at h → MayTake bracha at tags h i → counts_item i.kind b i.from ≡ true
    → IsValueStep at tags h (Take i) (after_item i.kind b i) (says_item i.kind b i)
step b i at tags h stands may counts =
    subst (λ (x : Rb). IsValueStep at tags h (Take i) (after_item i.kind x i) (says_item i.kind x i)) (sym stands)
    (step_take at tags h i may (ap (λ (x : Rb). counts_item i.kind x i.from) (sym stands) ∙ counts))

counted : (b : Rb) (i : Item) (at : Place) (tags : Tags) (h : List Call) → b ≡ state_of at h → MayTake bracha at tags h i
    → counts_item i.kind b i.from ≡ not (bracha.repeats at tags h i)
counted b i at tags h stands may = ap (λ (x : Rb). counts_item i.kind x i.from) stands ∙ counts_is at tags h i may

-- b is the opposite of both
opposites : (b d e : Bool) → b ≡ not d → b ≡ not e → d ≡ e
opposites b true true p q = refl
opposites b false false p q = refl
opposites b true false p q = absurd (both_ways b p q)
opposites b false true p q = absurd (both_ways b q p)

pub heard_well : (t : Tagging) (old new : Rb) (i : Item) (before after : List Msg) (r : Result Heard Mem) → is_err r ≡ false
    → HearsByValue old new i before after r → Takes Stands bracha is_live shown t old new i before after r
heard_well t old new i before after (Ok Took) e hears =
    record {
      grows = λ at tags h stands tagger may. hears.state ∙ (step old i at tags h stands may hears.counts).state;
      made = λ at tags h stands tagger may. hears.said ∙ ap (λ (l : List Msg). before ++ l) (step old i at tags h stands may hears.counts).said;
      counts = λ at tags h stands tagger may. opposites _ (bracha.repeats at tags h i) false (counted old i at tags h stands may) hears.counts;
    }
heard_well t old new i before after (Ok Repeat) e hears =
    record {
      same = λ at tags h stands. hears.state ∙ stands;
      out = hears.out;
      counts = λ at tags h stands tagger may. opposites _ (bracha.repeats at tags h i) true (counted old i at tags h stands may) hears.again;
    }
heard_well t old new i before after (Err x) e hears = absurd (cc)

pub heard_half : (t : Tagging) (old new : Rb) (i : Item) (before after : List Msg) (r : Result Heard Mem) → is_err r ≡ true
    → HearsByValue old new i before after r → Takes Stands bracha is_live shown t old (record new { live = false }) i before after r
heard_half t old new i before after (Ok Took) e hears = absurd (cc)
heard_half t old new i before after (Ok Repeat) e hears = absurd (cc)
heard_half t old new i before after (Err x) e hears =
    record {
      dies = record {
        out = hears.out;
        dead = refl;
        shows = λ at tags h stands tagger may.
            record {
              out = elim hears.shows [
                | inl same ↦ inl (same ∙ ap delivered stands)
                | inr more ↦ inr (more ∙ ap delivered (step old i at tags h stands may hears.counts).state)
              ];
              ready = λ i. inl refl;
            };
      };
      counts = λ at tags h stands tagger may. opposites _ (bracha.repeats at tags h i) false (counted old i at tags h stands may) hears.counts;
    }

pub started_well : (t : Tagging) (old : Rb) (value : List ℕ) (before after : List Msg) (r : Result (Unit {0}) Mem) → is_err r ≡ false
    → OnOk r (after ≡ before ++ to_all old.slot Init (Some value)) → Started Stands bracha is_live shown t old old value before after r
started_well t old value before after (Ok u) e said =
    record {
      grows = λ at tags h stands tagger may. stands ∙ (step_start at tags h value may.once).state;
      made = λ at tags h stands tagger may.
          said ∙ ap (λ (l : List Msg). before ++ l) (ap (λ (b : Rb). to_all b.slot Init (Some value)) stands ∙ (step_start at tags h value may.once).said);
    }
started_well t old value before after (Err x) e said = absurd (cc)
