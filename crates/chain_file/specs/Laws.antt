-- What may be relied on: an epoch is read of its text, and no two epochs have one text.
use Rattle.std.specs.Prelude.{◌≡◌}
use Rattle.chain_file.specs.Epochs.{ClosedEpoch, EpochIs, IsEpoch, epoch_text}

-- the text of an epoch is read as this epoch, and as no other
abbrev pub EpochIsRead : Type 0
EpochIsRead = (e : ClosedEpoch) → IsEpoch e → EpochIs (epoch_text e) e × ((d : ClosedEpoch) → EpochIs (epoch_text e) d → d ≡ e)

-- epochs of one text are one
abbrev pub TextIsOfOne : Type 0
TextIsOfOne = (d e : ClosedEpoch) → IsEpoch d → IsEpoch e → epoch_text d ≡ epoch_text e → d ≡ e
