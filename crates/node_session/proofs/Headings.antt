-- The headers of configurations are headers of files, and their requests are items with which serving may begin.
use Rattle.std.proofs.Common.{◌≡◌, ℕ, ◌+◌, ◌^◌, ◌<◌, ◌≤◌, ◌==◌, true, List, [], ◌∷◌, ◌++◌, length, map, get_or, Some, None, refl, sym, ◌∙◌, ap, inl, inr, arith}
use Rattle.std.specs.Prelude.{take}
use Rattle.std.specs.List.{All, AllByRecursion, slice_get}
use Rattle.std.specs.Int.{w32, to_be_bytes}
use Rattle.std.proofs.lemmas.Bool.{or_cases, eqb-true}
use Rattle.std.proofs.lemmas.List.{length-append, map-append, take_more}
use Rattle.std.proofs.lemmas.List.Elements.{All-from_recursion}
use Rattle.std.proofs.lemmas.Nat.{pow_below, pow_pos}
use Rattle.std.proofs.lemmas.Option.{same_Some, slice_get_within, slice_get-get_or}
use Rattle.outside.specs.declared.link.LinkItem.{LinkItem}
use Rattle.ritas_base.specs.Numbers.{IsSession}
use Rattle.ritas_base.specs.Slots.{is_atomic}
use Rattle.schedule_file.specs.ReadHeader.{heading, is_root}
use Rattle.schedule_file.specs.Spelling.{IsHeading, IsKey}
use Rattle.cluster_config.specs.declared.cluster.ClusterConfig.{ClusterConfig}
use Rattle.cluster_config.specs.declared.node.NodeConfig.{NodeConfig}
use Rattle.cluster_config.specs.declared.requests.Request.{Request}
use Rattle.cluster_config.specs.Cluster.{cluster_text}
use Rattle.cluster_config.specs.Node.{node_text}
use Rattle.cluster_config.specs.Ranges.{FitsNode, FitsCluster}
use Rattle.node_loop.specs.Served.{MayBegin}
use Rattle.node_session.specs.Configs.{node_header, node_session, cluster_header, first_item}
use Rattle.node_session.specs.Session.{IsServable}

ordered : (root : ℕ) → is_atomic root ≡ true → is_root root ≡ true
ordered root is = elim (or_cases (root == 6) (root == 7) is) [
  | inl six ↦ ap is_root (eqb-true root 6 six)
  | inr seven ↦ ap is_root (eqb-true root 7 seven)
]

pub node_heading : (config : NodeConfig) → config.session < 2 ^ 64 → IsSession config.p → length config.key_row ≡ 31 → AllByRecursion IsKey config.key_row
    → length config.coin_key ≡ 32 → FitsNode (node_text config) → IsHeading (heading (node_header config))
node_heading config session numbers places keys coin fits = record {
  session = session;
  numbers = numbers;
  root = ordered config.mode.root fits.root;
  correct = pow_below config.me config.p.n fits.me;
  keys = (fits.me, refl, record { places = places; each = keys; rest = fits.rest }, coin);
}

-- the session of a node may be served
pub node_servable : (config : NodeConfig) (first : List LinkItem) → config.session < 2 ^ 64 → IsSession config.p → length config.key_row ≡ 31 → AllByRecursion IsKey config.key_row
    → length config.coin_key ≡ 32 → FitsNode (node_text config) → All MayBegin first → IsServable (node_session config) first
node_servable config first session numbers places keys coin fits firsts = record {
  heading = node_heading config session numbers places keys coin fits;
  atomic = fits.root;
  firsts = firsts;
}

pub cluster_heading : (config : ClusterConfig) → config.session < 2 ^ 64 → IsSession config.p → length config.master ≡ 32 → FitsCluster (cluster_text config)
    → IsHeading (heading (cluster_header config))
cluster_heading config session numbers master fits = record {
  session = session;
  numbers = numbers;
  root = ordered config.mode.root fits.root;
  correct = omega (arith, pow_pos config.p.n);
  keys = master;
}

-- ---- requests

short_first : (r : Request) → length r.payload ≤ 4088 → MayBegin (first_item r)
short_first r short =
    omega (arith, short, length-append (to_be_bytes w32 r.client) (to_be_bytes w32 r.request ++ r.payload), length-append (to_be_bytes w32 r.request) r.payload)

all_first : (rs : List Request) → AllByRecursion (λ r. length r.payload ≤ 4088) rs → AllByRecursion MayBegin (map first_item rs)
all_first [] all = tt
all_first (r ∷ rs) all = (short_first r all.0, all_first rs all.1)

pub are_first : (rs : List Request) → AllByRecursion (λ r. length r.payload ≤ 4088) rs → All MayBegin (map first_item rs)
are_first rs all = All-from_recursion MayBegin (map first_item rs) (all_first rs all)

-- one more of them
pub first_more : (rs : List Request) (at : ℕ) (r : Request) (xs ys zs : List LinkItem) (item : LinkItem) → slice_get rs at ≡ Some r → xs ≡ map first_item (take at rs)
    → ys ≡ xs ++ item ∷ [] → item ≡ first_item r → zs ≡ ys → zs ≡ map first_item (take (at + 1) rs)
first_more rs at r xs ys zs item there was more is same =
    let within : at < length rs = slice_get_within rs at r there in
    let here : get_or rs at r ≡ r = same_Some (get_or rs at r) r (sym (slice_get-get_or rs at r within) ∙ there) in
    same ∙ more ∙ ap (λ l. l ++ item ∷ []) was ∙ ap (λ x. map first_item (take at rs) ++ x ∷ []) is
    ∙ ap (λ x. map first_item (take at rs) ++ first_item x ∷ []) (sym here)
    ∙ sym (ap (map first_item) (take_more rs at r within) ∙ map-append first_item (take at rs) (get_or rs at r ∷ []))

-- each place has one
pub none_there : {A : Type 0} (rs : List Request) (at : ℕ) → at < length rs → slice_get rs at ≡ None → A
none_there {A = A} [] at within none = absurd (omega (arith, within))
none_there {A = A} (r ∷ rs) at within none = absurd (let both : Some (get_or (r ∷ rs) at r) ≡ None = sym (slice_get-get_or (r ∷ rs) at r within) ∙ none in cc)
