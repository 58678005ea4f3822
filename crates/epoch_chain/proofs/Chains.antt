-- The chains of any two nodes are prefixes of one list.
use Rattle.std.specs.Prelude.{◌≡◌, ℕ, ◌<◌, ◌≤◌, List, [], ◌∷◌, ◌++◌, length, refl, ◌⊎◌}
use Rattle.std.proofs.Common.{sym, ◌∙◌, ap, subst, inl, inr, append-nil, arith}
use Rattle.std.proofs.lemmas.Bool.{cases_lt}
use Rattle.layer_api.specs.Service.{IsPart}
use Rattle.command_log.specs.Rows.{Row, AreOnce, HasRow, is_closed}
use Rattle.command_log.specs.Fresh.{fresh, closed_part}
use Rattle.epoch_chain.specs.Chain.{chain_after, chain_of}
use Rattle.epoch_chain.specs.Epochs.{OneIsPart, Epochs, AreAlike, IsLog, IsKept, AreKept, IsView, IsOfEpoch}
use Rattle.epoch_chain.proofs.Parts.{part_of_part, parts_of_two, has_in_part, has_in_two}
use Rattle.epoch_chain.proofs.Closing.{gained_in, gained_of_part, gained_of_one, gained_of_both, chain_grows, chain_of_part, chain_by_gained, after_once}

-- two logs of one epoch
logs_alike : (e : Epochs) → AreAlike e → (k : ℕ) (xs ys : List Row) → IsLog e k xs → IsLog e k ys → OneIsPart xs ys
logs_alike e alike k xs ys x y =
    parts_of_two xs ys (e.log k x.replica) (e.log k y.replica) x.part y.part (alike k x.replica y.replica x.correct y.correct)

-- what is kept of an epoch is as good as the log that it is from
pub kept_after : (e : Epochs) (k : ℕ) (chain rows : List Row) → (h : IsKept e k chain rows) → chain_after chain rows ≡ chain_after chain h.log
kept_after e k chain rows h = go h.same
  where
    go : (rows ≡ h.log) ⊎ (rows ≡ closed_part (fresh chain h.log)) → chain_after chain rows ≡ chain_after chain h.log
    go (inl own) = ap (chain_after chain) own
    go (inr got) = ap (chain_after chain) got ∙ chain_by_gained chain h.log

-- ---- two nodes that keep as many epochs

-- have one chain of them
pub kept_one : (e : Epochs) → AreAlike e → (a b : List (List Row)) → AreKept e a → AreKept e b → length a ≡ length b → chain_of a ≡ chain_of b
kept_one e alike [] [] x y same = refl
kept_one e alike [] (ys ∷ b) x y same = absurd (omega (arith, same))
kept_one e alike (xs ∷ a) [] x y same = absurd (omega (arith, same))
kept_one e alike (xs ∷ a) (ys ∷ b) x y same =
    let lengths : length b ≡ length a = omega (arith, same) in
    let before : chain_of a ≡ chain_of b = kept_one e alike a b x.1 y.1 (sym lengths) in
    let there = subst (λ (k : ℕ). IsLog e k y.0.log) lengths y.0.stands in
    let closed = ap (λ (c : List Row). is_closed (fresh c y.0.log)) before ∙ y.0.closed in
    let one = gained_of_both (chain_of a) x.0.log y.0.log (logs_alike e alike (length a) x.0.log y.0.log x.0.stands there) x.0.closed closed in
    kept_after e (length a) (chain_of a) xs x.0
    ∙ (ap (λ (q : List Row). q ++ chain_of a) one
    ∙ (ap (λ (c : List Row). chain_after c y.0.log) before ∙ sym (kept_after e (length b) (chain_of b) ys y.0)))

-- ---- a node's newest epoch

-- comes from a log, which is closed or its own
pub record Newest (e : Epochs) (k : ℕ) (chain rows : List Row) : Type 0 where
  pub log : List Row
  pub stands : IsLog e k log
  pub after : chain_after chain rows ≡ chain_after chain log

pub newest : (e : Epochs) (k : ℕ) (chain rows : List Row) → IsLog e k rows ⊎ IsKept e k chain rows → Newest e k chain rows
newest e k chain rows (inl own) = record { log = rows; stands = own; after = refl }
newest e k chain rows (inr kept) = record { log = kept.log; stands = kept.stands; after = kept_after e k chain rows kept }

-- where another node keeps that epoch, its chain is a part of the other's
pub below : (e : Epochs) → AreAlike e → (a b : List (List Row)) → IsView e a → AreKept e b → length a ≤ length b → IsPart (chain_of a) (chain_of b)
below e alike [] b x y few = (chain_of b, append-nil (chain_of b))
below e alike (xs ∷ a) [] x y few = absurd (omega (arith, few))
below e alike (xs ∷ a) (ys ∷ b) x y few =
    elim (cases_lt (length a) (length b)) [
      | inl fewer ↦
          part_of_part (chain_of (xs ∷ a)) (chain_of b) (chain_of (ys ∷ b)) (below e alike (xs ∷ a) b x y.1 (omega (arith, fewer)))
          (chain_grows (chain_of b) ys)
      | inr many ↦
          let lengths : length b ≡ length a = omega (arith, few, many) in
          let before : chain_of a ≡ chain_of b = kept_one e alike a b x.1 y.1 (sym lengths) in
          let mine = newest e (length a) (chain_of a) xs x.0 in
          let there = subst (λ (k : ℕ). IsLog e k y.0.log) lengths y.0.stands in
          let closed = ap (λ (c : List Row). is_closed (fresh c y.0.log)) before ∙ y.0.closed in
          let part = gained_of_one (chain_of a) mine.log y.0.log (logs_alike e alike (length a) mine.log y.0.log mine.stands there) closed in
          let both = chain_of_part (chain_of a) mine.log y.0.log part in (
            both.0,
            ap (λ (l : List Row). both.0 ++ l) mine.after ∙ (both.1
                ∙ (ap (λ (c : List Row). chain_after c y.0.log) before ∙ sym (kept_after e (length b) (chain_of b) ys y.0))),
          )
    ]

-- ---- any two nodes

pub kept_is_view : (e : Epochs) (a : List (List Row)) → AreKept e a → IsView e a
kept_is_view e [] x = tt
kept_is_view e (xs ∷ a) x = (inr x.0, x.1)

-- one that has more epochs keeps all that the other has
behind : (e : Epochs) → AreAlike e → (a b : List (List Row)) → IsView e a → IsView e b → length a < length b → IsPart (chain_of a) (chain_of b)
behind e alike a [] x y fewer = absurd (omega (arith, fewer))
behind e alike a (ys ∷ b) x y fewer =
    part_of_part (chain_of a) (chain_of b) (chain_of (ys ∷ b)) (below e alike a b x y.1 (omega (arith, fewer))) (chain_grows (chain_of b) ys)

-- of two in one epoch, one has the longer log
level : (e : Epochs) → AreAlike e → (a b : List (List Row)) → IsView e a → IsView e b → length a ≡ length b → OneIsPart (chain_of a) (chain_of b)
level e alike [] b x y same = inl (chain_of b, append-nil (chain_of b))
level e alike (xs ∷ a) [] x y same = absurd (omega (arith, same))
level e alike (xs ∷ a) (ys ∷ b) x y same = go (logs_alike e alike (length a) mine.log its.log mine.stands there)
  where
    lengths : length b ≡ length a
    lengths = omega (arith, same)

    before : chain_of a ≡ chain_of b
    before = kept_one e alike a b x.1 y.1 (sym lengths)

    mine : Newest e (length a) (chain_of a) xs
    mine = newest e (length a) (chain_of a) xs x.0

    its : Newest e (length b) (chain_of b) ys
    its = newest e (length b) (chain_of b) ys y.0

    there : IsLog e (length a) its.log
    there = subst (λ (k : ℕ). IsLog e k its.log) lengths its.stands

    second : chain_after (chain_of a) its.log ≡ chain_of (ys ∷ b)
    second = ap (λ (c : List Row). chain_after c its.log) before ∙ sym its.after

    go : OneIsPart mine.log its.log → OneIsPart (chain_of (xs ∷ a)) (chain_of (ys ∷ b))
    go (inl part) =
        let both = chain_of_part (chain_of a) mine.log its.log (gained_of_part (chain_of a) mine.log its.log part) in
        inl (both.0, ap (λ (l : List Row). both.0 ++ l) mine.after ∙ (both.1 ∙ second))
    go (inr part) =
        let both = chain_of_part (chain_of a) its.log mine.log (gained_of_part (chain_of a) its.log mine.log part) in
        inr (both.0, ap (λ (l : List Row). both.0 ++ l) (sym second) ∙ (both.1 ∙ sym mine.after))

pub chains_agree : (e : Epochs) → AreAlike e → (a b : List (List Row)) → IsView e a → IsView e b → OneIsPart (chain_of a) (chain_of b)
chains_agree e alike a b x y =
    elim (cases_lt (length a) (length b)) [
      | inl fewer ↦ inl (behind e alike a b x y fewer)
      | inr many ↦ elim (cases_lt (length b) (length a)) [
        | inl more ↦ inr (behind e alike b a y x more)
        | inr few ↦ level e alike a b x y (omega (arith, many, few))
      ]
    ]

-- ---- each client and request once

pub chains_once : (logs : List (List Row)) → AreOnce (chain_of logs)
chains_once [] = tt
chains_once (log ∷ logs) = after_once (chain_of logs) log (chains_once logs)

-- ---- each row is one of a correct replica's log

-- a row that an epoch gave the chain stands in the log that its rows are from
row_of_log : (e : Epochs) (k : ℕ) (chain rows : List Row) (r : Row) → IsLog e k rows ⊎ IsKept e k chain rows → HasRow rows r → (epochs : ℕ) → k < epochs → IsOfEpoch e epochs r
row_of_log e k chain rows r (inl own) has epochs within =
    record { epoch = k; within = within; replica = own.replica; correct = own.correct; has = has_in_part rows (e.log k own.replica) own.part r has }
row_of_log e k chain rows r (inr kept) has epochs within =
    record {
      epoch = k;
      within = within;
      replica = kept.stands.replica;
      correct = kept.stands.correct;
      has = has_in_part kept.log (e.log k kept.stands.replica) kept.stands.part r (go kept.same);
    }
  where
    go : (rows ≡ kept.log) ⊎ (rows ≡ closed_part (fresh chain kept.log)) → HasRow kept.log r
    go (inl same) = subst (λ (l : List Row). HasRow l r) same has
    go (inr got) = gained_in chain kept.log r (subst (λ (l : List Row). HasRow l r) got has)

pub rows_are_of_epochs : (e : Epochs) (a : List (List Row)) (r : Row) → IsView e a → HasRow (chain_of a) r → IsOfEpoch e (length a) r
rows_are_of_epochs e [] r x here = absurd here
rows_are_of_epochs e (xs ∷ a) r x here =
    elim (has_in_two (closed_part (fresh (chain_of a) xs)) (chain_of a) r here) [
      | inl now ↦ row_of_log e (length a) (chain_of a) xs r x.0 (gained_in (chain_of a) xs r now) (length (xs ∷ a)) (omega arith)
      | inr before ↦
          let i = rows_are_of_epochs e a r (kept_is_view e a x.1) before in
          let within = i.within in
          record { epoch = i.epoch; within = omega (arith, within); replica = i.replica; correct = i.correct; has = i.has }
    ]
