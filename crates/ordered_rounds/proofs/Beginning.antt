-- Where a round begins: it hasn't begun, one is left and something is pending.
use Rattle.std.specs.Prelude.{◌≡◌, ℕ, ◌<◌, ◌≤◌, ◌↔◌, Bool, true, false, List, [], ◌∷◌, Option, Some, None, is_some, IsTrue, refl}
use Rattle.std.proofs.Common.{sym, ◌∙◌, ap, subst, arith}
use Rattle.std.proofs.lemmas.Bool.{both_ways}
use Rattle.ritas_base.specs.declared.id.Id.{Id}
use Rattle.ritas_base.specs.declared.item.Say.{Say}
use Rattle.ritas_base.specs.Numbers.{Numbers}
use Rattle.frame_codec.specs.Values.{ids_bytes}
use Rattle.layer_api.specs.Service.{Seat}
use Rattle.layer_api.specs.Words.{Word, Ask}
use Rattle.layer_api.specs.Multi.{Desk}
use Rattle.ordered_rounds.specs.Box.{RoundRules, RoundLaws, MayRound}
use Rattle.ordered_rounds.specs.BoxCalls.{RoundShown}
use Rattle.ordered_rounds.specs.Rounds.{delivered_ids, pending, proposal, first_ids, round_desk, rounds}
use Rattle.ordered_rounds.specs.Stepping.{current, log_now, next_ask}
use Rattle.ordered_rounds.specs.Laws.Stepping.{may_ask}
use Rattle.ordered_rounds.specs.Boxes.{RoundBegan}
use Rattle.ordered_rounds.specs.Turning.{Poised, Turned}
use Rattle.ordered_rounds.specs.Laws.Getters.{AllShow}
use Rattle.ordered_rounds.specs.declared.ordered.Ordered.{Ordered}
use Rattle.ordered_rounds.proofs.Stepped.{some_value}
use Rattle.ordered_rounds.proofs.Turns.{turned_going, turned_none, turned_begun}

-- whether something is there
tests_none : (there : Bool) (xs : List Id) → (IsTrue there ↔ (xs ≡ [] → ⊥)) → there ≡ false → xs ≡ []
tests_none there [] is no_more = refl
tests_none there (y ∷ ys) is no_more = absurd (both_ways there no_more (is.1 (λ e. let z : y ∷ ys ≡ [] = e in cc)))

tests_some : (there : Bool) (xs : List Id) → (IsTrue there ↔ (xs ≡ [] → ⊥)) → there ≡ true → (y : Id) × (ys : List Id) × (xs ≡ y ∷ ys)
tests_some there [] is has = absurd (is.0 has refl)
tests_some there (y ∷ ys) is has = (y, ys, refl)

-- a round below the last
pub is_left : (n k : ℕ) → n ≡ k → n < 1000000 → k < rounds
unfolding rounds
is_left n k e l = omega (arith, e, l)

pub none_left : (n k : ℕ) → n ≡ k → 1000000 ≤ n → k < rounds → ⊥
unfolding rounds
none_left n k e far l = omega (arith, e, far, l)

module _ {V : Type 0} (stands : V → Desk → List Word → Type 0) (v : RoundRules) (laws : RoundLaws v) (live : V → Bool) (shown : V → RoundShown) (shows : AllShow stands v live shown)
    (x : Ordered V) (seat : Seat) (w : List Word) (c : Word) (p : Poised stands v shown x seat w c) where
  none_there : (o : Option V) → is_some o ≡ false → o ≡ None
  none_there None q = refl
  none_there (Some y) q = absurd cc

  pub began_before : (said : List Say) → is_some x.boxes.current ≡ true → Turned stands v shown x seat w c said said
  began_before said is =
      let one = some_value x.boxes.current is in turned_going stands v laws live shown shows x seat w c p one.0 said one.1

  pub no_round_left : (said : List Say) → is_some x.boxes.current ≡ false → 1000000 ≤ x.completed → Turned stands v shown x seat w c said said
  no_round_left said none far =
      turned_none stands v laws live shown shows x seat w c p said (none_there x.boxes.current none)
      (λ small. absurd (none_left x.completed (current v seat (c ∷ w)) p.completed far small))

  abbrev waiting : List Id
  waiting = pending (c ∷ w) (log_now v seat (c ∷ w))

  pub nothing_waits : (said : List Say) (there : Bool) → is_some x.boxes.current ≡ false → (IsTrue there ↔ (waiting ≡ [] → ⊥)) → there ≡ false → Turned stands v shown x seat w c said said
  nothing_waits said there none is lacks =
      turned_none stands v laws live shown shows x seat w c p said (none_there x.boxes.current none)
      (λ small. ap (first_ids seat.numbers.n) (tests_none there waiting is lacks))

  pub round_begins : (there : Bool) (one : V) (before after : List Say) → is_some x.boxes.current ≡ false → x.completed < 1000000 → (IsTrue there ↔ (waiting ≡ [] → ⊥)) → there ≡ true
      → RoundBegan stands v x.place x.ledger x.completed one before after → Turned stands v shown (record x { boxes = record x.boxes { current = Some one } }) seat w c before after
  round_begins there one before after none small is has began =
      let some = tests_some there waiting is has in
      let n : Numbers = x.place.numbers in
      let ids : List Id = proposal n.n waiting in
      let same : proposal seat.numbers.n (some.0 ∷ some.1) ≡ ids =
      ap (λ (q : Numbers). proposal q.n (some.0 ∷ some.1)) (sym p.seated.numbers) ∙ ap (proposal n.n) (sym some.2) in
      let ask : next_ask v seat (c ∷ w) (log_now v seat (c ∷ w)) ≡ Some (ids_bytes ids) =
      ap (first_ids seat.numbers.n) some.2 ∙ ap (λ (xs : List Id). Some (ids_bytes xs)) same in
      let may : MayRound v (round_desk v seat (current v seat (c ∷ w))) [] (Ask (ids_bytes ids)) =
      subst (λ (xs : List Id). MayRound v (round_desk v seat (current v seat (c ∷ w))) [] (Ask (ids_bytes xs))) same
      (may_ask v laws seat p.seated.session (current v seat (c ∷ w)) (c ∷ w) (log_now v seat (c ∷ w)) some.0 some.1 p.seated.met some.2) in
      turned_begun stands v laws live shown shows x seat w c p _ one ids before after (none_there x.boxes.current none) (is_left x.completed (current v seat (c ∷ w)) p.completed small) refl ask
      (began (round_desk v seat (current v seat (c ∷ w))) (delivered_ids (c ∷ w)) (log_now v seat (c ∷ w)) (sym p.seated.numbers) (sym p.seated.me) (sym p.completed) refl p.ledger may)
