-- Worked rows: which events a journal keeps, in root service 6 and with no window that is full.
use Rattle.std.specs.Prelude.{◌≡◌, ℕ, true, false, List, [], ◌∷◌, refl}
use Rattle.std.proofs.Common.{lit≤}
use Rattle.ritas_base.specs.declared.event.Event.{Event}
use Rattle.ritas_base.specs.declared.event.Event.TheVariants.{Frame, Input, Turn}
use Rattle.frame_codec.specs.Inputs.{input_format}
use Rattle.frame_codec.specs.Grammar.{class1}
use Rattle.keyed_channel.specs.Frames.{opening}
use Rattle.ritas_core.specs.Checks.{input_check}
use Rattle.world_model.specs.World.{Setting, states_of}
use Rattle.node_loop.specs.Keeping.{is_kept, kept_of}

-- a world all of whose replicas are correct
abbrev going : Setting → Setting
going w = record w {
  mode = record { root = 6; vect = w.mode.vect; version = w.mode.version; low = lit≤ tt; high = lit≤ tt };
  is_correct = λ i. true;
  service = record w.service { given = λ seat words. false; base = λ seat words o. 0; next_number = λ seat words. 0 };
  stops = λ k i. false;
}

-- client 7's request 1, with no payload
abbrev request : List ℕ
request = 0 ∷ 0 ∷ 0 ∷ 7 ∷ 0 ∷ 0 ∷ 0 ∷ 1 ∷ []

-- each turn is kept, also one that finds nothing to do
turn_row : (w : Setting) (es : List Event) → is_kept w es (Turn 0) ≡ true
turn_row w es = refl

-- a frame that doesn't open isn't, and nothing at a faulty replica is
no_frame_row : (w : Setting) (es : List Event) → is_kept (going w) es (Frame 0 (1 ∷ 1 ∷ 0 ∷ [])) ≡ false
unfolding opening
no_frame_row w es = refl

faulty_row : (w : Setting) (es : List Event) (bytes : List ℕ) → is_kept (record w { is_correct = λ i. false }) es (Frame 0 bytes) ≡ false
faulty_row w es bytes = refl

-- a request that is taken is, one that is cut off isn't
input_row : (w : Setting) → is_kept (going w) [] (Input 0 request) ≡ true
unfolding states_of input_check input_format class1
input_row w = refl

-- of these, the newest first, two are
kept_row : (w : Setting) → kept_of (going w) [] (Turn 0 ∷ Input 0 (7 ∷ []) ∷ Input 0 request ∷ []) ≡ Turn 0 ∷ Input 0 request ∷ []
unfolding states_of input_check input_format class1
kept_row w = refl
