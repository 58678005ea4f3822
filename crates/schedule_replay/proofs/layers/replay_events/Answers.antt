use Rattle.std.proofs.Common.{◌≡◌, sym, ap}
use Rattle.atomic_bcast.specs.Commands.{commands}
use Rattle.layer_api.specs.Service.{ServiceRules}
use Rattle.schedule_file.specs.declared.header.Header.{Header}
use Rattle.schedule_replay.specs.Layers.{other_of, service_of, carried, setting_by, setting_of}
use Rattle.schedule_replay.proofs.layers.replay_events.Goals as goal

pub returns-in-Reliable-clause-shows : goal.returns-in-Reliable-clause-shows
returns-in-Reliable-clause-shows g c = λ tells.
    let h : Header = c.args.header in
    let is : service_of h.mode.root ≡ commands = carried h.mode.root c.service.result (sym c.service.ensures) c.in-Reliable.is in
    let same : setting_by commands (other_of h.mode) h ≡ setting_of h = ap (λ (r : ServiceRules). setting_by r (other_of h.mode) h) (sym is) in
    rw same at (c.replay_with.ensures.shows tells)
