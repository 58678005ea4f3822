-- What is kept of commands after a call of the map.
use Rattle.std.specs.Prelude.{◌≡◌, ℕ, Bool, true, false, List, Some, unwrap_or, cond, if◌then◌else◌, refl}
use Rattle.std.proofs.Common.{◌∙◌, ap}
use Rattle.std.specs.Ordering.{nat_cmp}
use Rattle.std.specs.Cmp.Lexicographic.{slice_cmp}
use Rattle.std.specs.BTreeMap.{get_by}
use Rattle.std.specs.Str.{bytes_eq}
use Rattle.command_log.specs.declared.origins.OriginSet.{OriginSet}
use Rattle.command_log.specs.Origins.{no_origins}
use Rattle.command_log.specs.Standing.{Payloads, origins_in}

-- one payload's origins, where the map has them at its bytes
pub put_in : (old new : Payloads) (payload : List ℕ) (origins : OriginSet)
    → ((v : List ℕ) → get_by (λ k. slice_cmp nat_cmp v k.items) new ≡ cond (bytes_eq payload v) (Some origins) (get_by (λ k. slice_cmp nat_cmp v k.items) old))
    → (v : List ℕ) → origins_in new v ≡ (if bytes_eq payload v then origins else origins_in old v)
put_in old new payload origins has v = ap (λ o. unwrap_or o no_origins) (has v) ∙ go (bytes_eq payload v)
  where
    go : (b : Bool) → unwrap_or (cond b (Some origins) (get_by (λ k. slice_cmp nat_cmp v k.items) old)) no_origins ≡ (if b then origins else origins_in old v)
    go true = refl
    go false = refl
