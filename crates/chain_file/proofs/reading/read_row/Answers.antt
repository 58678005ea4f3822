use Rattle.std.proofs.Common.{◌≡◌, ℕ, List, ◌++◌, ◌∷◌, length, drop, ap, sym, ◌∙◌}
use Rattle.std.specs.Int.{w16, w32, to_be_bytes}
use Rattle.std.proofs.lemmas.Result.{err_from_is_err_and}
use Rattle.command_log.specs.Pieces.{row_bytes}
use Rattle.chain_file.specs.Epochs.{FitsRow}
use Rattle.chain_file.specs.Reading.{HasFourBytes, HasTwoBytes}
use Rattle.chain_file.proofs.Fronts.{HasPart, none_then}
use Rattle.chain_file.proofs.reading.read_row.Goals as goal

pub returns-in_err-request : goal.returns-in_err-request
returns-in_err-request c =
    let p = err_from_is_err_and c.from_residual-in_err-request.result c.from_residual-in_err-request.ensures.1 in
    let bytes = c.args.bytes.now in
    let rest = c.in_ok-client.rest.now in
    let behind : rest ≡ drop 9 bytes =
    sym (ap (drop 9) (c.in-Some.ensures.cases.0 ∙ ap (λ (l : List ℕ). c.in-Some.origin.now ∷ l) (c.in_ok-num.ensures.parts ∙ ap (λ (l : List ℕ). to_be_bytes w32 c.in_ok-num.num ++ l) c.in_ok-client.ensures.parts))) in
    let has : HasPart HasFourBytes (to_be_bytes w32) FitsRow row_bytes bytes rest = λ r more fits parts.
    (r.request, to_be_bytes w16 (length r.payload) ++ (r.payload ++ more), fits.request, behind ∙ ap (drop 9) parts) in
    rw (p.1, p.2) (none_then HasFourBytes (to_be_bytes w32) FitsRow row_bytes bytes rest has c.in_err-request.field-0.0 c.in_err-request.ensures)

pub returns-in_err-size : goal.returns-in_err-size
returns-in_err-size c =
    let p = err_from_is_err_and c.from_residual-in_err-size.result c.from_residual-in_err-size.ensures.1 in
    let bytes = c.args.bytes.now in
    let rest = c.in_ok-request.rest.now in
    let behind : rest ≡ drop 13 bytes =
    sym (ap (drop 13) (c.in-Some.ensures.cases.0 ∙ ap (λ (l : List ℕ). c.in-Some.origin.now ∷ l) (c.in_ok-num.ensures.parts ∙ ap (λ (l : List ℕ). to_be_bytes w32 c.in_ok-num.num ++ l) (c.in_ok-client.ensures.parts ∙ ap (λ (l : List ℕ). to_be_bytes w32 c.in_ok-client.client ++ l) c.in_ok-request.ensures.parts)))) in
    let has : HasPart HasTwoBytes (to_be_bytes w16) FitsRow row_bytes bytes rest = λ r more fits parts.
    (length r.payload, r.payload ++ more, fits.payload, behind ∙ ap (drop 13) parts) in
    rw (p.1, p.2) (none_then HasTwoBytes (to_be_bytes w16) FitsRow row_bytes bytes rest has c.in_err-size.field-0.0 c.in_err-size.ensures)
