-- The front and then the tag.
use Rattle.std.proofs.Common.{◌-◌, sym, ◌∙◌, ap, ap₂, length, List, ℕ}
use Rattle.std.specs.Str.{bytes_eq}
use Rattle.keyed_channel.specs.Lengths.{tag_length}
use Rattle.keyed_channel.specs.Frames.{tagged_front, tag_of}
use Rattle.keyed_channel.proofs.Lazily.{same_by_parts, and_then, and_else, differ_by_length}
use Rattle.keyed_channel.proofs.lazy.LazyFrame.is.Goals as goal

pub returns-then-bytes-len : goal.returns-then-bytes-len
returns-then-bytes-len c = differ_by_length c.args.bytes.now c.args.self.now (λ e. c.if-bytes-len.true (e ∙ sym c.len.ensures.is))

pub returns-then-has_front : goal.returns-then-has_front
returns-then-has_front c =
    let bytes = c.args.bytes.now in
    let own = c.args.self.now in
    let parts = same_by_parts bytes own (length bytes - tag_length) (length own - tag_length) (λ e. ap (λ (l : List ℕ). length l - tag_length) e) in
    let front = sym c.has_front.ensures ∙ c.if-has_front.true in
    c.eq.ensures ∙ ap₂ bytes_eq c.split_at.ensures.back (c.as_slice.ensures ∙ c.tag.ensures)
    ∙ and_then _ (bytes_eq (tag_of bytes) (tag_of own)) _ parts (ap (λ (l : List ℕ). bytes_eq l (tagged_front own)) (sym c.split_at.ensures.front) ∙ front)

pub returns-else-has_front : goal.returns-else-has_front
returns-else-has_front c =
    let bytes = c.args.bytes.now in
    let own = c.args.self.now in
    let parts = same_by_parts bytes own (length bytes - tag_length) (length own - tag_length) (λ e. ap (λ (l : List ℕ). length l - tag_length) e) in
    let front = sym c.has_front.ensures ∙ c.if-has_front.false in
    c.has_front.ensures ∙ ap (λ (l : List ℕ). bytes_eq l (tagged_front own)) c.split_at.ensures.front
    ∙ and_else _ (bytes_eq (tag_of bytes) (tag_of own)) _ parts (ap (λ (l : List ℕ). bytes_eq l (tagged_front own)) (sym c.split_at.ensures.front) ∙ front)
