-- The replies that give a position or a piece are true.
use Rattle.std.proofs.Common.{ℕ, List, [], ◌∷◌, ◌++◌, refl, ap}
use Rattle.std.specs.List.{AllByRecursion}
use Rattle.ritas_base.specs.declared.event.Event.{Event}
use Rattle.outside.specs.Links.{replies_in}
use Rattle.layer_api.specs.Service.{IsPart}
use Rattle.command_log.specs.Rows.{AreOnce}
use Rattle.world_model.specs.World.{Setting}
use Rattle.world_model.specs.Agree.{rows_at}
use Rattle.node_loop.specs.Serving.{Serving, so_far, Round}
use Rattle.node_loop.specs.Told.{after_groups, told_from}
use Rattle.node_loop.specs.Laws.{IsTrueReply}
use Rattle.node_loop.proofs.Logs.{rows_are_once, position_in_part}
use Rattle.node_loop.proofs.Replying.{HoldsOfReplies, AreSuch, AreAllSuch, replies_hold}

-- nothing is asked of the rounds
abbrev any_round : List Event → Round → Type 0
any_round es x = Unit {0}

module _ (w : Setting) (once : AreOnce w.start.base) (grow : (more es : List Event) (i : ℕ) → IsPart (rows_at w es i) (rows_at w (more ++ es) i)) where
  true_ones : HoldsOfReplies w any_round (IsTrueReply w)
  true_ones = record {
    position = λ es at to client request position is.
        record { position = λ form. record { client = client; request = request; position = position; bytes = refl; stands = is }; piece = λ form. absurd (cc) };
    refusal = λ es at to client request code. record { position = λ form. absurd (cc); piece = λ form. absurd (cc) };
    piece = λ es at to bytes position such correct is.
        record { position = λ form. absurd (cc); piece = λ form. record { moment = es; earlier = ([], refl); position = position; bytes = refl } };
    stays = λ e es x holds. record {
      position = λ form.
          let was = holds.position form in
          record {
            client = was.client;
            request = was.request;
            position = was.position;
            bytes = was.bytes;
            stands = position_in_part (rows_at w es x.at) (rows_at w (e ∷ es) x.at) (grow (e ∷ []) es x.at) (rows_are_once w once (e ∷ es) x.at)
                was.client was.request was.position was.stands;
          };
      piece = λ form.
          let was = holds.piece form in
          record {
            moment = was.moment;
            earlier = (e ∷ was.earlier.0, ap (λ l. e ∷ l) was.earlier.1);
            position = was.position;
            bytes = was.bytes;
          };
    };
  }

  any_rounds : (past : List Event) (start : Serving) (rounds : List Round) → AreSuch w any_round past start rounds
  any_rounds past start [] = tt
  any_rounds past start (x ∷ rounds) = (tt, any_rounds past start rounds)

  any_groups : (past : List Event) (start : Serving) (groups : List (List Round)) → AreAllSuch w any_round past start groups
  any_groups past start [] = tt
  any_groups past start (group ∷ older) = (any_rounds past (after_groups w past start older) group, any_groups past start older)

  pub replies_true : (past : List Event) (start : Serving) (groups : List (List Round))
      → AllByRecursion (IsTrueReply w (so_far past (after_groups w past start groups))) (replies_in (told_from w past start groups))
  replies_true past start groups = replies_hold w once any_round (IsTrueReply w) true_ones past start groups (any_groups past start groups)
