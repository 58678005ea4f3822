-- The replies to those who waited.
use Rattle.std.proofs.Common.{◌≡◌, ◌≢◌, ℕ, zero, suc, ◌+◌, ◌<◌, arith, List, [], ◌∷◌, ◌++◌, length, map, take, Option, Some, None, refl, sym, ◌∙◌, ap, append-nil, append_assoc, slice_index_or}
use Rattle.std.proofs.lemmas.List.{take_more}
use Rattle.outside.specs.declared.link.Sent.{Sent}
use Rattle.node_loop.specs.declared.output.Reply.{Reply}
use Rattle.node_loop.specs.Calls.{reply, reply_each}
use Rattle.node_loop.specs.Standing.{reply_by}

each_both : (at : ℕ) (bytes : List ℕ) (xs ys : List (Option ℕ)) → reply_each at bytes (xs ++ ys) ≡ reply_each at bytes xs ++ reply_each at bytes ys
each_both at bytes [] ys = refl
each_both at bytes (x ∷ xs) ys =
    ap (λ zs. reply at bytes x ++ zs) (each_both at bytes xs ys) ∙ sym (append_assoc (reply at bytes x) (reply_each at bytes xs) (reply_each at bytes ys))

each_more : (at : ℕ) (bytes : List ℕ) (conns : List (Option ℕ)) (i : ℕ) → i < length conns
    → reply_each at bytes (take (i + 1) conns) ≡ reply_each at bytes (take i conns) ++ reply at bytes (slice_index_or conns i None)
each_more at bytes conns i within =
    ap (reply_each at bytes) (take_more conns i None within)
    ∙ each_both at bytes (take i conns) (slice_index_or conns i None ∷ [])
    ∙ ap (λ xs. reply_each at bytes (take i conns) ++ xs) (append-nil (reply at bytes (slice_index_or conns i None)))

-- one more connection was replied to
pub replied_more : (at : ℕ) (bytes : List ℕ) (conns : List (Option ℕ)) (i : ℕ) (conn : Option ℕ) (before : List Sent) (now more : List Reply) → i < length conns
    → slice_index_or conns i None ≡ conn → map (reply_by at) now ≡ before ++ reply_each at bytes (take i conns)
    → map (reply_by at) more ≡ map (reply_by at) now ++ reply at bytes conn → map (reply_by at) more ≡ before ++ reply_each at bytes (take (i + 1) conns)
replied_more at bytes conns i conn before now more within is so_far did =
    did ∙ ap (λ xs. xs ++ reply at bytes conn) so_far
    ∙ append_assoc before (reply_each at bytes (take i conns)) (reply at bytes conn)
    ∙ ap (λ x. before ++ (reply_each at bytes (take i conns) ++ reply at bytes x)) (sym is)
    ∙ ap (λ xs. before ++ xs) (sym (each_more at bytes conns i within))

-- where one of them is a connection, it is replied to
pub some_replied : (at : ℕ) (bytes : List ℕ) (conns : List (Option ℕ)) (i conn : ℕ) → i < length conns → slice_index_or conns i None ≡ Some conn
    → reply_each at bytes conns ≢ []
some_replied at bytes [] i conn within is none = absurd (omega (arith, within))
some_replied at bytes (None ∷ conns) zero conn within is none = absurd (cc)
some_replied at bytes (None ∷ conns) (suc i) conn within is none = some_replied at bytes conns i conn (omega (arith, within)) is none
some_replied at bytes (Some other ∷ conns) i conn within is none = absurd (cc)
