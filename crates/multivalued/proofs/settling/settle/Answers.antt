use Rattle.std.proofs.Common.{◌≡◌, ◌≤◌, ◌∙◌, ap, subst, refl, append_assoc, Bool, false, List, [], ◌∷◌, ◌++◌, None, Some}
use Rattle.std.specs.Prelude.{Option, not, ◌&&◌, ◌||◌, nat_le, is_some, option_map}
use Rattle.std.specs.List.{list_any}
use Rattle.ritas_base.specs.declared.slot.Slot.{Slot}
use Rattle.ritas_base.specs.declared.item.Say.{Say}
use Rattle.ritas_base.specs.Numbers.{support_of}
use Rattle.layer_api.specs.Words.{bit_byte}
use Rattle.layer_api.specs.Binary.{MayPropose}
use Rattle.layer_api.specs.Part.{newly_asked, passed, says_in}
use Rattle.layer_api.specs.PartLaws.{part_asked_still}
use Rattle.multivalued.specs.Consensus.{init, count_passing, valid, own_vect, vect_slot, proposed_bit, bit_asked, bit_words, bench_of, is_step, is_clear, candidates, multi_decision}
use Rattle.multivalued.specs.Laws.Inside.{bit_stays, bit_nothing}
use Rattle.multivalued.specs.Known.{vect_of}
use Rattle.multivalued.specs.Telling.{TellsVect, AsksBit, ProposesBit}
use Rattle.multivalued.proofs.Deciding.{some_support, decided_at, vect_place}
use Rattle.multivalued.proofs.KnownLaws.{valids_at, clear_at}
use Rattle.multivalued.proofs.TellingLaws.{told_newly, told_now, asked_now, bit_is_asked}
use Rattle.multivalued.proofs.settling.settle.Goals as goal

no_bit : (o : Option Bool) → is_some o ≡ false → option_map (λ b. bit_byte b ∷ []) o ≡ None
no_bit None e = refl
no_bit (Some b) e = absurd cc

pub returns : goal.returns
returns g c = λ at w d u.
    let h = d ∷ w in
    let n = at.scope.numbers.n in
    let s = support_of at.scope.numbers in
    let session = u.part_is.session in
    let waits = u.part_is.wait in
    let small : at.scope.numbers.n ≤ 31 = session.most in
    let some = some_support at session in
    let t = c.args.table.now in
    let old = c.args.old in
    let wait = c.args.part.now.wait in
    let own = c.args.old.own in
    let count : c.proposals.result ≡ count_passing at.scope (λ k. is_some (init at.scope (d ∷ w) k)) = c.proposals.ensures n s (init at.scope h) (vect_of at.scope h) small some u.known in
    let due : Bool = (c.args.old.own && nat_le c.args.part.now.wait c.proposals.result) && not c.args.old.told in
    let tells : TellsVect due (vect_slot at.scope at.me) c.args.table.now c.args.made.now.items c.tell.new.made.items =
    subst (λ (q : Slot). TellsVect due q c.args.table.now c.args.made.now.items c.tell.new.made.items) (c.slot.ensures ∙ vect_place c.args.part.now at u.part_is)
    (subst (λ (b : Bool). TellsVect b c.slot.result c.args.table.now c.args.made.now.items c.tell.new.made.items) c.is_due-tells.ensures c.in_ok-tell.ensures) in
    let first = told_newly at.scope w d t u.known small some own old.told wait c.proposals.result u.owns u.told waits count at.me c.args.made.now.items c.tell.new.made.items tells in
    let told : c.or-told.result ≡ is_some (own_vect at.scope (d ∷ w)) =
    c.or-told.ensures ∙ (ap (λ (x : Bool). c.args.old.told || x) c.is_due-tells.ensures
    ∙ told_now at.scope w d t u.known small some own old.told wait c.proposals.result u.owns u.told waits count) in
    let valids : c.valids.result ≡ count_passing at.scope (λ k. is_some (valid at.scope (d ∷ w) k)) =
    c.valids.ensures n s (init at.scope h) (vect_of at.scope h) small some u.known ∙ valids_at at.scope h in
    let must : Bool = (c.or-told.result && nat_le c.args.part.now.wait c.valids.result) && not c.args.old.asked in
    let asks : AsksBit g.B.BinaryBox.stands g.B.BinaryBox.rules must (list_any (is_clear at.scope (d ∷ w)) (candidates at.scope (d ∷ w)))
    c.args.inner.now c.ask.new.inner c.tell.new.made.items c.ask.new.made.items =
    subst (λ (x : Bool). AsksBit g.B.BinaryBox.stands g.B.BinaryBox.rules must x c.args.inner.now c.ask.new.inner c.tell.new.made.items c.ask.new.made.items) (clear_at at.scope h)
    (subst (λ (x : Bool). ProposesBit g.B.BinaryBox.stands g.B.BinaryBox.rules x c.args.table.now c.args.inner.now c.ask.new.inner c.tell.new.made.items c.ask.new.made.items) c.is_due-asks.ensures
    c.in_ok-ask.ensures n s (init at.scope h) (vect_of at.scope h) small some u.known) in
    let may : is_some (proposed_bit at.scope w) ≡ false → MayPropose (passed is_step d ++ bit_words at.scope w) =
    λ e. part_asked_still (bit_asked at.scope) is_step (bit_stays at.scope) (bit_nothing at.scope) d w (no_bit (proposed_bit at.scope w) e) in
    let done = bit_is_asked at w d c.or-told.result old.asked wait c.valids.result told u.asked waits valids g.B.BinaryBox.stands g.B.BinaryBox.rules
    c.args.inner.now c.ask.new.inner c.tell.new.made.items c.ask.new.made.items u.heard may asks in
    let more = says_in (g.B.BinaryBox.rules.says (bench_of at)) (newly_asked (bit_asked at.scope w) (bit_asked at.scope (d ∷ w))) (passed is_step d ++ bit_words at.scope w) in
    record {
      reached = record {
        owns = u.owns;
        told = told;
        asked = c.or.ensures ∙ (ap (λ (x : Bool). c.args.old.asked || x) c.is_due-asks.ensures ∙ asked_now at w d c.or-told.result old.asked wait c.valids.result told u.asked waits valids);
        decided = decided_at g.B.BinaryBox.rules at h t old.decided c.decide.result c.decision.result session u.known
            (c.decision.ensures.rules (bench_of at) (bit_words at.scope h) done.inner) c.decide.ensures (multi_decision g.B.BinaryBox.rules at w) u.decided;
        round = c.round.ensures.rules (bench_of at) (bit_words at.scope h) done.inner;
        stood = done.inner;
      };
      made = done.made ∙ (ap (λ (ys : List Say). ys ++ more) first ∙ append_assoc c.args.made.now.items _ more);
    }
