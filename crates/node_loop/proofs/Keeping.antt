-- A frame more is kept, or isn't since too many bytes would be.
use Rattle.std.specs.Prelude.{◌≡◌, ℕ, ◌+◌, ◌==◌, ◌&&◌, ◌<◌, ◌≤◌, Bool, true, false, List, [], ◌∷◌, ◌++◌, length, slice_set, slice_index_or, Option, refl, if◌then◌else◌}
use Rattle.std.proofs.Common.{sym, ◌∙◌, ap, ap₂, subst, inl, inr, arith, get_or-set_other, get_or-set_same}
use Rattle.std.proofs.Math.ListN.{length-set}
use Rattle.std.proofs.lemmas.Bool.{cases_Bool, cases_eq, eq-eqb, eqb-true}
use Rattle.std.specs.Prelude.{map, take}
use Rattle.std.proofs.Common.{get_or}
use Rattle.std.proofs.lemmas.List.{map_more}
use Rattle.replica.specs.Out.{OutFrame}
use Rattle.world_model.specs.MadeOrder.{MadeFrame}
use Rattle.keyed_channel.specs.Frames.{seq_of}
use Rattle.link_resume.specs.declared.kept.Kept.{Kept}
use Rattle.ritas_base.specs.declared.mode.FrameVersion.{FrameVersion}
use Rattle.link_resume.specs.Lists.{Keepings, kept_for, bytes_in, most_kept, may_have, IsWithin, IsOver, with_frame_kept, with_list as list_set}
use Rattle.node_loop.specs.Peers.{Peers, is_pair, with_list, keeps, keep_one, keep_all}
use Rattle.node_loop.specs.PeersStanding.{AreKept, made_as}

pub pair_same : (i j : ℕ) → is_pair i j i j ≡ true
pair_same i j = ap₂ (λ (a b : Bool). a && b) (eq-eqb i i refl) (eq-eqb j j refl)

pair_other : (i peer j : ℕ) → (j ≡ peer → ⊥) → is_pair i peer i j ≡ false
pair_other i peer j other = elim (cases_Bool (j == peer)) [
  | inl same ↦ absurd (other (eqb-true j peer same))
  | inr not_same ↦ ap₂ (λ (a b : Bool). a && b) (eq-eqb i i refl) not_same
]

keeps_more : (version : FrameVersion) (frame : List ℕ) (ks : List Kept) → IsWithin (most_kept version) (bytes_in ks + length frame)
    → keeps version frame ks ≡ ks ++ record { seq = seq_of frame; frame = frame } ∷ []
keeps_more version frame ks room = ap (λ (b : Bool). if b then ks ++ record { seq = seq_of frame; frame = frame } ∷ [] else ks) room

keeps_none : (version : FrameVersion) (frame : List ℕ) (ks : List Kept) → IsOver (most_kept version) (bytes_in ks + length frame) → keeps version frame ks ≡ ks
keeps_none version frame ks full = ap (λ (b : Bool). if b then ks ++ record { seq = seq_of frame; frame = frame } ∷ [] else ks) full

-- what is kept for one peer is this list, and the others' lists stay
pub one_list : (version : FrameVersion) (n i peer : ℕ) (list : List Kept) (kept : Keepings) (p : Peers) → AreKept version n i kept p.keeping → peer < n
    → AreKept version n i (list_set kept peer list) (with_list i peer list p).keeping
one_list version n i peer list kept p are here = record {
  limit = are.limit;
  many = length-set kept.lists peer list ∙ are.many;
  each = λ j within. elim (cases_eq j peer) [
    | inl same ↦
        let lt : peer < length kept.lists = omega (arith, here, are.many) in
        ap (λ (k : ℕ). slice_index_or (slice_set kept.lists peer list) k []) same
        ∙ (get_or-set_same kept.lists peer list [] lt
        ∙ sym (ap (λ (b : Bool). if b then list else p.keeping i j) (ap (is_pair i peer i) same ∙ pair_same i peer)))
    | inr other ↦
        get_or-set_other kept.lists peer j list [] other
        ∙ (are.each j within ∙ sym (ap (λ (b : Bool). if b then list else p.keeping i j) (pair_other i peer j other)))
  ];
}

-- there is as much room as is said
same_room : (version : FrameVersion) (n i peer size : ℕ) (kept : Keepings) (p : Peers) (b : Bool) → AreKept version n i kept p.keeping → peer < n
    → may_have kept.limit (bytes_in (kept_for kept.lists peer) + size) ≡ b → may_have (most_kept version) (bytes_in (p.keeping i peer) + size) ≡ b
same_room version n i peer size kept p b are here is =
    sym (ap₂ (λ (limit : Option ℕ) (ks : List Kept). may_have limit (bytes_in ks + size)) are.limit (are.each peer here)) ∙ is

pub kept_more : (version : FrameVersion) (n i peer seq : ℕ) (frame : List ℕ) (kept now : Keepings) (p : Peers) → AreKept version n i kept p.keeping → peer < n → seq ≡ seq_of frame
    → now ≡ with_frame_kept kept peer seq frame → IsWithin kept.limit (bytes_in (kept_for kept.lists peer) + length frame)
    → AreKept version n i now (with_list i peer (keeps version frame (p.keeping i peer)) p).keeping
kept_more version n i peer seq frame kept now p are here number is room =
    let same = are.each peer here in
    let list : kept_for kept.lists peer ++ record { seq = seq; frame = frame } ∷ [] ≡ keeps version frame (p.keeping i peer) =
    ap₂ (λ (ks : List Kept) (s : ℕ). ks ++ record { seq = s; frame = frame } ∷ []) same number
    ∙ sym (keeps_more version frame (p.keeping i peer) (same_room version n i peer (length frame) kept p true are here room)) in
    subst (λ (k : Keepings). AreKept version n i k (with_list i peer (keeps version frame (p.keeping i peer)) p).keeping)
    (ap (list_set kept peer) (sym list) ∙ sym is) (one_list version n i peer (keeps version frame (p.keeping i peer)) kept p are here)

pub kept_full : (version : FrameVersion) (n i peer : ℕ) (frame : List ℕ) (kept now : Keepings) (p : Peers) → AreKept version n i kept p.keeping → peer < n
    → now ≡ kept → IsOver kept.limit (bytes_in (kept_for kept.lists peer) + length frame)
    → AreKept version n i now (with_list i peer (keeps version frame (p.keeping i peer)) p).keeping
kept_full version n i peer frame kept now p are here is full =
    let none = keeps_none version frame (p.keeping i peer) (same_room version n i peer (length frame) kept p false are here full) in
    record {
      limit = ap (λ (k : Keepings). k.limit) is ∙ are.limit;
      many = ap (λ (k : Keepings). length k.lists) is ∙ are.many;
      each = λ j within. ap (λ (k : Keepings). kept_for k.lists j) is ∙ (are.each j within ∙ elim (cases_eq j peer) [
        | inl e ↦
            ap (p.keeping i) e
            ∙ (sym none ∙ sym (ap (λ (b : Bool). if b then keeps version frame (p.keeping i peer) else p.keeping i j) (ap (is_pair i peer i) e ∙ pair_same i peer)))
        | inr other ↦ sym (ap (λ (b : Bool). if b then keeps version frame (p.keeping i peer) else p.keeping i j) (pair_other i peer j other))
      ]);
    }

-- what is no peer is passed over
pub kept_none : (version : FrameVersion) (n i peer : ℕ) (list : List Kept) (kept : Keepings) (p : Peers) → AreKept version n i kept p.keeping → n ≤ peer
    → AreKept version n i kept (with_list i peer list p).keeping
kept_none version n i peer list kept p are past = record {
  limit = are.limit;
  many = are.many;
  each = λ j within. are.each j within ∙ sym (ap (λ (b : Bool). if b then list else p.keeping i j) (pair_other i peer j (λ e. omega (arith, within, past, e))));
}

-- ---- several frames

keep_last : (version : FrameVersion) (fs : List MadeFrame) (f : MadeFrame) (p : Peers) → keep_all version (fs ++ f ∷ []) p ≡ keep_one version f (keep_all version fs p)
keep_last version [] f p = refl
keep_last version (g ∷ fs) f p = keep_last version fs f (keep_one version g p)

-- the next one is kept
pub keep_next : (version : FrameVersion) (event at : ℕ) (xs : List OutFrame) (i : ℕ) (x : OutFrame) (p : Peers) → i < length xs → x ≡ get_or xs i x
    → keep_all version (map (made_as event at) (take (i + 1) xs)) p ≡ keep_one version (made_as event at x) (keep_all version (map (made_as event at) (take i xs)) p)
keep_next version event at xs i x p lt is =
    ap (λ (l : List MadeFrame). keep_all version l p) (map_more (made_as event at) xs i x lt
    ∙ ap (λ (y : OutFrame). map (made_as event at) (take i xs) ++ made_as event at y ∷ []) (sym is))
    ∙ keep_last version (map (made_as event at) (take i xs)) (made_as event at x) p
