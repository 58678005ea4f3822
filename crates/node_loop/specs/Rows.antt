-- Worked rows: which events are served, and which replies have to be true.
use Rattle.std.specs.Prelude.{◌≡◌, ℕ, ◌^◌, false, List, length, refl}
use Rattle.std.proofs.Common.{arith}
use Rattle.ritas_base.specs.declared.event.Event.{Event}
use Rattle.ritas_base.specs.declared.event.Event.TheVariants as events
use Rattle.client_port.specs.Messages.{position_reply, refusal_reply}
use Rattle.world_model.specs.World.{Setting}
use Rattle.command_log.specs.Pieces.{Piece, piece_bytes}
use Rattle.node_loop.specs.Laws.{IsServed, IsTrueReply, NamesPosition, GivesPiece}

-- ---- events

-- a frame that another made is never passed on, and none is sealed
no_pass : (w : Setting) (from to m : ℕ) → IsServed w (events.Pass from to m) → ⊥
no_pass w from to m served = served

no_seal : (w : Setting) (from to : ℕ) (body : List ℕ) → IsServed w (events.Sealed from to body) → ⊥
no_seal w from to body served = served

-- no event is at a faulty replica
no_turn : (w : Setting) (at : ℕ) → w.is_correct at ≡ false → IsServed w (events.Turn at) → ⊥
no_turn w at faulty served = cc

no_frame : (w : Setting) (to : ℕ) (bytes : List ℕ) → w.is_correct to ≡ false → IsServed w (events.Frame to bytes) → ⊥
no_frame w to bytes faulty served = let correct = served.0 in cc

no_input : (w : Setting) (at : ℕ) (bytes : List ℕ) → w.is_correct at ≡ false → IsServed w (events.Input at bytes) → ⊥
no_input w at bytes faulty served = let correct = served.0 in cc

-- none has 65,536 bytes
too_long : (w : Setting) (to : ℕ) (bytes : List ℕ) → length bytes ≡ 2 ^ 16 → IsServed w (events.Frame to bytes) → ⊥
too_long w to bytes long served = let short = served.1 in omega (arith, long, short)

too_long_input : (w : Setting) (at : ℕ) (bytes : List ℕ) → length bytes ≡ 2 ^ 16 → IsServed w (events.Input at bytes) → ⊥
too_long_input w at bytes long served = let short = served.1 in omega (arith, long, short)

-- ---- replies

-- a reply of a position has to be true, and a refusal says nothing of a position
position_is_true : (w : Setting) (es : List Event) (at to client request position : ℕ)
    → IsTrueReply w es (record { at = at; to = to; bytes = position_reply client request position })
    → NamesPosition w es (record { at = at; to = to; bytes = position_reply client request position })
position_is_true w es at to client request position true_of = true_of.position refl

refusal_is_free : (w : Setting) (es : List Event) (at to client request code : ℕ)
    → IsTrueReply w es (record { at = at; to = to; bytes = refusal_reply client request code })
refusal_is_free w es at to client request code = record { position = λ form. absurd cc; piece = λ form. absurd cc }

-- a piece has to be one of the log
piece_is_of_log : (w : Setting) (es : List Event) (at to : ℕ) (p : Piece)
    → IsTrueReply w es (record { at = at; to = to; bytes = piece_bytes p })
    → GivesPiece w es (record { at = at; to = to; bytes = piece_bytes p })
piece_is_of_log w es at to p true_of = true_of.piece refl
