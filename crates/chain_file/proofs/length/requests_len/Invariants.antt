use Rattle.std.proofs.Common.{◌≡◌, ◌*◌, ◌≤◌, length, take}
use Rattle.std.specs.List.{AllByRecursion}
use Rattle.chain_file.specs.Epochs.{IsRequest, requests_text}
use Rattle.chain_file.proofs.length.requests_len.Given as goal

abbrev pub invariant-loop-request : goal.invariant-loop-request
invariant-loop-request l = record {
  each : AllByRecursion IsRequest (take l.request-index l.waiting);
  len : l.len ≡ length (requests_text (take l.request-index l.waiting));
  most : l.len ≤ l.request-index * 4098;
}
