-- Of the rounds of two runs over one list of items the ones are the first of the others.
use Rattle.std.proofs.Common.{◌≡◌, ℕ, ◌-◌, ◌≤◌, Bool, true, false, List, [], ◌∷◌, ◌++◌, length, take, drop, refl, sym, ◌∙◌, ap, ap₂, subst, append_assoc, inl, inr, arith, length-append}
use Rattle.std.proofs.lemmas.List.{take-append-drop, length-drop}
use Rattle.std.proofs.Math.Dec.{leb}
use Rattle.std.proofs.lemmas.Bool.{leb-true, leb-false}
use Rattle.ritas_base.specs.declared.event.Event.{Event}
use Rattle.outside.specs.declared.link.LinkItem.{LinkItem}
use Rattle.layer_api.specs.Service.{IsPart}
use Rattle.world_model.specs.World.{Setting}
use Rattle.world_model.specs.Agree.{OneIsPart}
use Rattle.node_loop.specs.declared.limits.Limits.{Limits}
use Rattle.node_loop.specs.Serving.{Want, Begins, Ends, Finishes, Overflows, Turns, Closes, Halts, Reminds, Asks, wants, Serving, Round, Began, Turned, Closed, Reminded, Took, after_from, IsWanted, AreWantedFrom}
use Rattle.node_loop.specs.Laws.{items_of, OneRun}

-- ---- parts

part_itself : {X : Type 0} (xs : List X) → IsPart xs xs
part_itself xs = ([], refl)

part_of_part : {X : Type 0} (xs ys zs : List X) → IsPart xs ys → IsPart ys zs → IsPart xs zs
part_of_part xs ys zs first second =
    (second.0 ++ first.0, append_assoc second.0 first.0 xs ∙ (ap (λ (l : List _). second.0 ++ l) first.1 ∙ second.1))

both_parts : {X : Type 0} (more extra xs ys : List X) → more ++ xs ≡ extra ++ ys → OneIsPart xs ys
both_parts [] extra xs ys e = inr (extra, sym e)
both_parts (x ∷ more) [] xs ys e = inl (x ∷ more, e)
both_parts (x ∷ more) (y ∷ extra) xs ys e = both_parts more extra xs ys (cc)

-- of two parts of one list one is a part of the other
parts_of_one : {X : Type 0} (xs ys zs : List X) → IsPart xs zs → IsPart ys zs → OneIsPart xs ys
parts_of_one xs ys zs first second = both_parts first.0 second.0 xs ys (first.1 ∙ sym second.1)

-- of parts of two lists one is a part of the other, where it is so of these
parts_of_two : {X : Type 0} (xs ys vs zs : List X) → IsPart xs vs → IsPart ys zs → OneIsPart vs zs → OneIsPart xs ys
parts_of_two xs ys vs zs first second (inl part) = parts_of_one xs ys zs (part_of_part xs vs zs first part) second
parts_of_two xs ys vs zs first second (inr part) = parts_of_one xs ys vs first (part_of_part ys zs vs second part)

-- parts of one length are equal
whole_part : {X : Type 0} (more xs ys : List X) → more ++ xs ≡ ys → length xs ≡ length ys → xs ≡ ys
whole_part [] xs ys is long = is
whole_part (x ∷ more) xs ys is long = absurd (omega (arith, long, ap length (sym is), length-append more xs))

one_length : {X : Type 0} (xs ys : List X) → OneIsPart xs ys → length xs ≡ length ys → xs ≡ ys
one_length xs ys (inl part) long = whole_part part.0 xs ys part.1 long
one_length xs ys (inr part) long = sym (whole_part part.0 ys xs part.1 (sym long))

-- ---- the items of rounds

items_more : (more xs : List Round) → IsPart (items_of xs) (items_of (more ++ xs))
items_more [] xs = part_itself (items_of xs)
items_more (Began item ∷ more) xs = items_more more xs
items_more (Turned i ∷ more) xs = items_more more xs
items_more (Closed i epoch ∷ more) xs = items_more more xs
items_more (Reminded i j ∷ more) xs = items_more more xs
items_more (Took item ∷ more) xs = let part = items_more more xs in (item ∷ part.0, ap (λ (l : List LinkItem). item ∷ l) part.1)

wanted_before : (w : Setting) (past : List Event) (limits : Limits) (start : Serving) (more xs : List Round)
    → AreWantedFrom w past limits start (more ++ xs) → AreWantedFrom w past limits start xs
wanted_before w past limits start [] xs wanted = wanted
wanted_before w past limits start (x ∷ more) xs wanted = wanted_before w past limits start more xs wanted.1

-- ---- one round

same_item : (a b : LinkItem) (is : List LinkItem) → OneIsPart (a ∷ is) (b ∷ is) → a ≡ b
same_item a b is one = let e = one_length (a ∷ is) (b ∷ is) one refl in cc

-- two rounds that are wanted where the same was wanted
same_round : (want : Want) (x y : Round) (xs : List Round) → IsWanted want x → IsWanted want y → OneIsPart (items_of (x ∷ xs)) (items_of (y ∷ xs)) → x ≡ y
same_round (Begins item) (Began a) (Began b) xs left right one = ap (λ (i : LinkItem). Began i) (sym left ∙ right)
same_round (Begins item) (Began a) (Turned c) xs left right one = absurd right
same_round (Begins item) (Began a) (Closed c d) xs left right one = absurd right
same_round (Begins item) (Began a) (Reminded c d) xs left right one = absurd right
same_round (Begins item) (Began a) (Took c) xs left right one = absurd right
same_round (Begins item) (Turned c) y xs left right one = absurd left
same_round (Begins item) (Closed c d) y xs left right one = absurd left
same_round (Begins item) (Reminded c d) y xs left right one = absurd left
same_round (Begins item) (Took c) y xs left right one = absurd left
same_round (Turns k) (Turned i) (Turned j) xs left right one = ap (λ (i : ℕ). Turned i) (sym left ∙ right)
same_round (Turns k) (Turned i) (Began c) xs left right one = absurd right
same_round (Turns k) (Turned i) (Closed c d) xs left right one = absurd right
same_round (Turns k) (Turned i) (Reminded c d) xs left right one = absurd right
same_round (Turns k) (Turned i) (Took c) xs left right one = absurd right
same_round (Turns k) (Began c) y xs left right one = absurd left
same_round (Turns k) (Closed c d) y xs left right one = absurd left
same_round (Turns k) (Reminded c d) y xs left right one = absurd left
same_round (Turns k) (Took c) y xs left right one = absurd left
same_round (Closes k l) (Closed i a) (Closed j b) xs left right one = ap₂ (λ (a b : ℕ). Closed a b) (sym left.0 ∙ right.0) (sym left.1 ∙ right.1)
same_round (Closes k l) (Closed i a) (Began c) xs left right one = absurd right
same_round (Closes k l) (Closed i a) (Turned c) xs left right one = absurd right
same_round (Closes k l) (Closed i a) (Reminded c d) xs left right one = absurd right
same_round (Closes k l) (Closed i a) (Took c) xs left right one = absurd right
same_round (Closes k l) (Began c) y xs left right one = absurd left
same_round (Closes k l) (Turned c) y xs left right one = absurd left
same_round (Closes k l) (Reminded c d) y xs left right one = absurd left
same_round (Closes k l) (Took c) y xs left right one = absurd left
same_round (Reminds k l) (Reminded i j) (Reminded m n) xs left right one = ap₂ (λ (a b : ℕ). Reminded a b) (sym left.0 ∙ right.0) (sym left.1 ∙ right.1)
same_round (Reminds k l) (Reminded i j) (Began c) xs left right one = absurd right
same_round (Reminds k l) (Reminded i j) (Turned c) xs left right one = absurd right
same_round (Reminds k l) (Reminded i j) (Closed c d) xs left right one = absurd right
same_round (Reminds k l) (Reminded i j) (Took c) xs left right one = absurd right
same_round (Reminds k l) (Began c) y xs left right one = absurd left
same_round (Reminds k l) (Turned c) y xs left right one = absurd left
same_round (Reminds k l) (Closed c d) y xs left right one = absurd left
same_round (Reminds k l) (Took c) y xs left right one = absurd left
same_round Asks (Took a) (Took b) xs left right one = ap (λ (i : LinkItem). Took i) (same_item a b (items_of xs) one)
same_round Asks (Took a) (Began c) xs left right one = absurd right
same_round Asks (Took a) (Turned c) xs left right one = absurd right
same_round Asks (Took a) (Closed c d) xs left right one = absurd right
same_round Asks (Took a) (Reminded c d) xs left right one = absurd right
same_round Asks (Began c) y xs left right one = absurd left
same_round Asks (Turned c) y xs left right one = absurd left
same_round Asks (Closed c d) y xs left right one = absurd left
same_round Asks (Reminded c d) y xs left right one = absurd left
same_round Ends x y xs left right one = absurd left
same_round Finishes x y xs left right one = absurd left
same_round (Overflows k) x y xs left right one = absurd left
same_round Halts x y xs left right one = absurd left

-- ---- all rounds

same_rounds : (w : Setting) (past : List Event) (limits : Limits) (start : Serving) (xs ys : List Round)
    → AreWantedFrom w past limits start xs → AreWantedFrom w past limits start ys
    → OneIsPart (items_of xs) (items_of ys) → length xs ≡ length ys → xs ≡ ys
same_rounds w past limits start [] [] left right one long = refl
same_rounds w past limits start [] (y ∷ ys) left right one long = absurd (cc)
same_rounds w past limits start (x ∷ xs) [] left right one long = absurd (cc)
same_rounds w past limits start (x ∷ xs) (y ∷ ys) left right one long =
    let below = parts_of_two (items_of xs) (items_of ys) (items_of (x ∷ xs)) (items_of (y ∷ ys)) (items_more (x ∷ []) xs) (items_more (y ∷ []) ys) one in
    let rest : xs ≡ ys = same_rounds w past limits start xs ys left.1 right.1 below (cc) in
    let want : IsWanted (wants w past limits (after_from w past start xs)) y = subst (λ (zs : List Round). IsWanted (wants w past limits (after_from w past start zs)) y) (sym rest) right.0 in
    let items : OneIsPart (items_of (x ∷ xs)) (items_of (y ∷ xs)) = subst (λ (zs : List Round). OneIsPart (items_of (x ∷ xs)) (items_of (y ∷ zs))) (sym rest) one in
    ap₂ (λ (z : Round) (zs : List Round). z ∷ zs) (same_round (wants w past limits (after_from w past start xs)) x y xs left.0 want items) rest

-- the ones are no longer than the others
first_rounds : (w : Setting) (past : List Event) (limits : Limits) (start : Serving) (xs ys : List Round)
    → AreWantedFrom w past limits start xs → AreWantedFrom w past limits start ys
    → OneIsPart (items_of xs) (items_of ys) → length xs ≤ length ys → IsPart xs ys
first_rounds w past limits start xs ys left right one short =
    let k = length ys - length xs in
    let more = take k ys in
    let rest = drop k ys in
    let whole : more ++ rest ≡ ys = take-append-drop k ys in
    let wanted = wanted_before w past limits start more rest (subst (λ (zs : List Round). AreWantedFrom w past limits start zs) (sym whole) right) in
    let part : IsPart (items_of rest) (items_of ys) = subst (λ (zs : List Round). IsPart (items_of rest) (items_of zs)) whole (items_more more rest) in
    let items = parts_of_two (items_of xs) (items_of rest) (items_of xs) (items_of ys) (part_itself (items_of xs)) part one in
    let long : length xs ≡ length rest = omega (arith, short, length-drop k ys) in
    (more, ap (λ (zs : List Round). more ++ zs) (same_rounds w past limits start xs rest left wanted items long) ∙ whole)

turned : {X : Type 0} (xs ys : List X) → OneIsPart xs ys → OneIsPart ys xs
turned xs ys (inl part) = inr part
turned xs ys (inr part) = inl part

pub runs_one : OneRun
runs_one w past limits start xs ys left right one = by_length (leb (length xs) (length ys)) refl
  where
    by_length : (b : Bool) → leb (length xs) (length ys) ≡ b → OneIsPart xs ys
    by_length true short = inl (first_rounds w past limits start xs ys left right one (leb-true (length xs) (length ys) short))
    by_length false long =
        let more = leb-false (length xs) (length ys) long in
        inr (first_rounds w past limits start ys xs right left (turned (items_of xs) (items_of ys) one) (omega (arith, more)))
