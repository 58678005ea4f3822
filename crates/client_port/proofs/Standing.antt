-- What a call leaves of the votes, and what is answered.
use Rattle.std.specs.Prelude.{◌≡◌, ℕ, ◌<◌, List, ◌∷◌, take, slice_index_or, slice_set, Option, Some, None, Ok, Err}
use Rattle.std.proofs.Common.{sym, ◌∙◌, ap, ap₂}
use Rattle.std.proofs.Math.Seq.{take-set-lt}
use Rattle.client_port.specs.Messages.{reply_number_in}
use Rattle.client_port.specs.Votes.{Wanted, ReplyCall, Ballots, VotesStand, replied, settled, settled_in, reply_fault_of, answer_but, answer_of}
use Rattle.client_port.specs.declared.votes.ReplyFault.{ReplyFault}
use Rattle.client_port.proofs.Tallies.{no_fault, replied_same, tally_at, tally_more, tally_same}

-- the fault that is found in what is kept is that after the calls
pub fault_there : (w : Wanted) (h : List ReplyCall) (v : Ballots) (c : ReplyCall) (o : Option ReplyFault) → VotesStand w h v
    → reply_fault_of v.wanted (slice_index_or v.positions c.from None) c ≡ o → reply_fault_of w (replied w h c.from) c ≡ o
fault_there w h v c o s e =
    sym (ap₂ (λ (x : Wanted) (b : Option ℕ). reply_fault_of x b c) s.waits
    (ap (λ (l : List (Option ℕ)). slice_index_or l c.from None) s.kept ∙ tally_at w h c.from))
    ∙ e

pub answers_fault : (w : Wanted) (h : List ReplyCall) (v : Ballots) (c : ReplyCall) (fault : ReplyFault) → VotesStand w h v
    → reply_fault_of v.wanted (slice_index_or v.positions c.from None) c ≡ Some fault → answer_of w h c ≡ Err fault
unfolding answer_of
answers_fault w h v c fault s e =
    ap (λ o. answer_but o (settled w (c ∷ h) (reply_number_in c.bytes))) (fault_there w h v c (Some fault) s e)

pub stands_still : (w : Wanted) (h : List ReplyCall) (v : Ballots) (c : ReplyCall) (fault : ReplyFault) → VotesStand w h v
    → reply_fault_of v.wanted (slice_index_or v.positions c.from None) c ≡ Some fault → VotesStand w (c ∷ h) v
stands_still w h v c fault s e =
    record {
      waits = s.waits;
      kept = s.kept ∙ sym (tally_same w h c (replied_same w h c fault (fault_there w h v c (Some fault) s e)));
    }

-- what is kept in places of which the first n are the replicas'
abbrev pub in_places : Wanted → List (Option ℕ) → Ballots
in_places w places = record { wanted = w; positions = take w.numbers.n places }

pub stands_more : (w : Wanted) (h : List ReplyCall) (x : Wanted) (places : List (Option ℕ)) (c : ReplyCall) (position : ℕ) → VotesStand w h (in_places x places)
    → reply_fault_of x (slice_index_or (take x.numbers.n places) c.from None) c ≡ None → c.from < x.numbers.n → position ≡ reply_number_in c.bytes
    → VotesStand w (c ∷ h) (in_places x (slice_set places c.from (Some position)))
stands_more w h x places c position s e within is =
    record {
      waits = s.waits;
      kept =
          take-set-lt x.numbers.n places c.from (Some position) within
          ∙ (ap₂ (λ (l : List (Option ℕ)) (p : ℕ). slice_set l c.from (Some p)) s.kept is
          ∙ sym (tally_more w h c (no_fault w (replied w h c.from) c (fault_there w h (in_places x places) c None s e))));
    }

pub settled_there : (w : Wanted) (h : List ReplyCall) (v : Ballots) (position : ℕ) → VotesStand w h v → settled_in v position ≡ settled w h position
settled_there w h v position s =
    ap₂ (λ (x : Wanted) (l : List (Option ℕ)). settled_in (record { wanted = x; positions = l }) position) s.waits s.kept

pub answers_position : (w : Wanted) (h : List ReplyCall) (v new : Ballots) (c : ReplyCall) (position : ℕ) → VotesStand w h v
    → reply_fault_of v.wanted (slice_index_or v.positions c.from None) c ≡ None → position ≡ reply_number_in c.bytes → VotesStand w (c ∷ h) new
    → answer_of w h c ≡ Ok (settled_in new position)
unfolding answer_of
answers_position w h v new c position s e is stands =
    ap (λ o. answer_but o (settled w (c ∷ h) (reply_number_in c.bytes))) (fault_there w h v c None s e)
    ∙ ap Ok (ap (settled w (c ∷ h)) (sym is) ∙ sym (settled_there w (c ∷ h) new position stands))
