-- What stands before the body, and then the body.
use Rattle.std.proofs.Common.{◌≡◌, sym, ◌∙◌, ap, ap₂, take, drop, refl}
use Rattle.std.specs.Str.{bytes_eq}
use Rattle.keyed_channel.specs.Lengths.{head_length}
use Rattle.keyed_channel.specs.Frames.{frame_front, tagged_front}
use Rattle.keyed_channel.proofs.Lazily.{front_of_tagged, same_by_parts, and_then, and_else}
use Rattle.keyed_channel.proofs.lazy.LazyFrame.has_front.Goals as goal

pub returns-then-eq : goal.returns-then-eq
returns-then-eq c =
    let f = c.self.inside in
    let given = c.args.front.now in
    let own = frame_front f.version f.from f.to f.seq f.body.value in
    let is : own ≡ tagged_front c.args.self.now = sym (front_of_tagged f.key.value own) ∙ ap tagged_front c.self.view_is in
    let parts = same_by_parts given own head_length head_length (λ _. refl) in
    let first : bytes_eq (take head_length given) (take head_length own) ≡ c.eq.result =
    sym (c.eq.ensures ∙ ap₂ bytes_eq c.split_at.ensures.front (c.as_slice.ensures ∙ c.head.ensures)) in
    c.eq-then-eq.ensures ∙ ap₂ bytes_eq c.split_at.ensures.back (c.as_slice-then-eq.ensures ∙ c.deref.ensures)
    ∙ and_then _ (bytes_eq (drop head_length given) (drop head_length own)) _ parts (first ∙ c.if-eq.true)
    ∙ ap (bytes_eq given) is

pub returns-else-eq : goal.returns-else-eq
returns-else-eq c =
    let f = c.self.inside in
    let given = c.args.front.now in
    let own = frame_front f.version f.from f.to f.seq f.body.value in
    let is : own ≡ tagged_front c.args.self.now = sym (front_of_tagged f.key.value own) ∙ ap tagged_front c.self.view_is in
    let parts = same_by_parts given own head_length head_length (λ _. refl) in
    let first : bytes_eq (take head_length given) (take head_length own) ≡ c.eq.result =
    sym (c.eq.ensures ∙ ap₂ bytes_eq c.split_at.ensures.front (c.as_slice.ensures ∙ c.head.ensures)) in
    sym first ∙ and_else _ (bytes_eq (drop head_length given) (drop head_length own)) _ parts (first ∙ c.if-eq.false) ∙ ap (bytes_eq given) is
