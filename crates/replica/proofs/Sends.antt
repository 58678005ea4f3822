-- What one message more adds to the frames and to the counts.
use Rattle.std.proofs.Common.{◌≡◌, ℕ, ◌+◌, ◌*◌, ◌/◌, ◌<◌, ◌≤◌, ◌%◌, ◌^◌, true, false, cond, List, [], ◌∷◌, ◌++◌, map, length, slice_index, refl, sym, ◌∙◌, ap, subst, arith, append_assoc, append-nil, add-zero, length-append}
use Rattle.std.specs.Prelude.{EachIndex}
use Rattle.std.proofs.Math.Nat.{add-mul-mod_self_right, mod-add-div', mod-eq_of_lt}
use Rattle.std.proofs.lemmas.List.Elements.{filter-append}
use Rattle.ritas_base.specs.declared.item.Msg.{Msg}
use Rattle.ritas_base.specs.Messages.{reaches}
use Rattle.keyed_channel.specs.KeyRow.{KeyRow}
use Rattle.ritas_core.specs.Order.{sent_to}
use Rattle.replica.specs.Out.{OutFrame}
use Rattle.replica.specs.Frames.{frame_for, receivers, frames_of}
use Rattle.replica.specs.Sending.{AreCounts, Sends, raised_at, counts_with}
use Rattle.replica.specs.Steps.{CountsFrames, PutsOut}
use Rattle.replica.specs.declared.replica.Replica.{Replica}
use Rattle.ritas_core.specs.Shown.{tagger_of}

-- counts that are alike everywhere are one
same_counts : (f g : ℕ → ℕ) → ((j : ℕ) → f j ≡ g j) → f ≡ g
same_counts f g h = λ i j. h j i

pub mod_more : (a b m : ℕ) → (a % m + b) % m ≡ (a + b) % m
mod_more a b m =
    let whole : (a % m + b) + a / m * m ≡ a + b = omega (arith, mod-add-div' a m) in
    sym (add-mul-mod_self_right (a % m + b) (a / m) m) ∙ ap (λ x. x % m) whole

-- how many of a list come to j
sent_append : (j : ℕ) (xs ys : List Msg) → length (sent_to j (xs ++ ys)) ≡ length (sent_to j xs) + length (sent_to j ys)
sent_append j xs ys = ap length (filter-append (λ m. reaches m.to j) xs ys) ∙ length-append (sent_to j xs) (sent_to j ys)

counts_append : (count : ℕ → ℕ) (xs ys : List Msg) → counts_with (counts_with count xs) ys ≡ counts_with count (xs ++ ys)
counts_append count xs ys =
    same_counts _ _ (λ j. let e : (count j + length (sent_to j xs)) + length (sent_to j ys) ≡ count j + length (sent_to j (xs ++ ys)) = omega (arith, sent_append j xs ys) in e)

counts_none : (count : ℕ → ℕ) → counts_with count [] ≡ count
counts_none count = same_counts _ _ (λ j. add-zero (count j))

-- where there is no message, no frame is made, and the counts stand
pub counts_nothing : (k : KeyRow) (count : ℕ → ℕ) (xs : List ℕ) (sent : ℕ) (out : List OutFrame) → AreCounts k.n xs count → sent < 2 ^ 64
    → CountsFrames k count [] xs sent sent out out
counts_nothing k count xs sent out are low = record {
  frames = sym (append-nil out);
  each = subst (λ (f : ℕ → ℕ). AreCounts k.n xs f) (sym (counts_none count)) are;
  all = let low' : sent + 0 < 2 ^ 64 = omega arith in sym (mod-eq_of_lt low' ∙ add-zero sent);
}

pub puts_nothing : {S E C : Type 0} (s : Replica S E C) (ms : List Msg) (out : List OutFrame) → ms ≡ [] → s.sent < 2 ^ 64 → PutsOut s s ms out out
puts_nothing s ms out none low = subst (λ (l : List Msg). PutsOut s s l out out) (sym none) (record {
  core = refl;
  halted = refl;
  counts = λ count are. counts_nothing (tagger_of s.core) count s.counts s.sent out are low;
})

-- the frames of one message
abbrev pub frames_for : KeyRow → (ℕ → ℕ) → Msg → List OutFrame
frames_for k count m = map (λ j. frame_for k j (count j) m) (receivers k m)

pub frames_append : (k : KeyRow) (count : ℕ → ℕ) (xs ys : List Msg) → frames_of k count (xs ++ ys) ≡ frames_of k count xs ++ frames_of k (counts_with count xs) ys
frames_append k count [] ys = ap (λ f. frames_of k f ys) (sym (counts_none count))
frames_append k count (x ∷ xs) ys =
    ap (λ fs. frames_for k count x ++ fs) (frames_append k (counts_with count (x ∷ [])) xs ys)
    ∙ sym (append_assoc (frames_for k count x) (frames_of k (counts_with count (x ∷ [])) xs) (frames_of k (counts_with (counts_with count (x ∷ [])) xs) ys))
    ∙ ap (λ f. frames_of k count (x ∷ xs) ++ frames_of k f ys) (counts_append count (x ∷ []) xs)

-- a number raised is the count with the message
raised_count : (m : Msg) (j a : ℕ) → raised_at m.to j (a % 2 ^ 64) ≡ (a + length (sent_to j (m ∷ []))) % 2 ^ 64
raised_count m j a =
    elim (reaches m.to j) as (λ b. cond b ((a % 2 ^ 64 + 1) % 2 ^ 64) (a % 2 ^ 64) ≡ (a + length (cond b (m ∷ []) [])) % 2 ^ 64) [
      | true ↦ mod_more a 1 (2 ^ 64)
      | false ↦ ap (λ x. x % 2 ^ 64) (sym (add-zero a))
    ]

pub sends_more : (k : KeyRow) (count : ℕ → ℕ) (ms : List Msg) (m : Msg) (xs ys : List ℕ) (before made after : List OutFrame) →
    Sends k count ms xs before made → after ≡ made ++ frames_for k (counts_with count ms) m
    → EachIndex ys (λ j. slice_index ys j ≡ raised_at m.to j (slice_index xs j)) → k.n ≤ length ys
    → Sends k count (ms ++ m ∷ []) ys before after
sends_more k count ms m xs ys before made after was now up few = record {
  frames =
      now ∙ ap (λ fs. fs ++ frames_for k (counts_with count ms) m) was.frames
      ∙ append_assoc before (frames_of k count ms) (frames_for k (counts_with count ms) m)
      ∙ ap (λ fs. before ++ (frames_of k count ms ++ fs)) (sym (append-nil (frames_for k (counts_with count ms) m)))
      ∙ ap (λ fs. before ++ fs) (sym (frames_append k count ms (m ∷ [])));
  counts = record {
    each = λ j below.
        let within : j < length ys = omega arith in
        up j within ∙ ap (raised_at m.to j) (was.counts.each j below) ∙ raised_count m j (counts_with count ms j)
        ∙ ap (λ f. f j % 2 ^ 64) (counts_append count ms (m ∷ []));
  };
}
