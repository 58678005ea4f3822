-- What is made by the events that a stop leaves in the journal of a node. Lists of events, of deeds and of the link's
-- calls have the newest first.
use Rattle.std.specs.Prelude.{◌≡◌, true, List, [], ◌∷◌}
use Rattle.ritas_base.specs.declared.event.Event.{Event}
use Rattle.layer_api.specs.Service.{IsPart}
use Rattle.outside.specs.Disks.{MayLeave, disk_state_of}
use Rattle.outside.specs.Links.{LinkAct, Starts}
use Rattle.outside.specs.declared.link.LinkPlan.{LinkPlan}
use Rattle.cluster_config.specs.declared.node.NodeConfig.{NodeConfig}
use Rattle.event_journal.specs.Journal.{OpensAs}
use Rattle.node_loop.specs.declared.end.ServeEnd.{ServeEnd}
use Rattle.node_loop.specs.Deeds.{Deed}
use Rattle.node_loop.specs.LivesPrint.{MakesFirsts, PrintsLife, life_deeds}
use Rattle.node_loop.specs.Outs.{Outs, Tells}
use Rattle.schedule_replay.specs.Layers.{setting_of}
use Rattle.world_model.specs.World.{Setting}
use Rattle.node_session.specs.Configs.{node_header, node_plan}
use Rattle.node_session.specs.Lives.{DiskSeen, ServesNode, head_in}

-- Either the link wasn't started in the life, so nothing left in it; or it was, and the events es make what left since
-- then. They have the events behind them after which the life began, and make their frames first.
pub data PrintsNode (w : Setting) (plan : LinkPlan) (past es : List Event) (deeds : List Deed)
    (before now : List LinkAct) : Type 0 where
  NotStarted : now ≡ before → IsPart past es → MakesFirsts w past es [] → PrintsNode w plan past es deeds before now
  Started : PrintsLife w past es deeds (Starts plan ∷ before) now → PrintsNode w plan past es deeds before now

-- Whatever ends a life of a node, the events as which an image opens that its disk may leave then make what left in
-- it. That a node lived so is what `serve_node` ensures by its clause `kept`, where its configuration has a journal.
abbrev pub NodeLivesPrint : Type 0
NodeLivesPrint = (config : NodeConfig) (tells : Tells) (base now : Outs) (d : DiskSeen) (end : ServeEnd)
    → d.tells ≡ true → tells.link ≡ true → (served : ServesNode config tells base now d end)
    → (image : List _) (es : List Event) → MayLeave (disk_state_of d.now) image
    → OpensAs config.me (head_in config) image es
    → PrintsNode (setting_of (node_header config)) (node_plan config) served.past es
    (life_deeds (setting_of (node_header config)) served.past served.life.groups) base.told now.told
