-- What is answered to the configuration of a job.
use Rattle.std.specs.Prelude.{◌≡◌, ◌≢◌, ◌⊎◌, ◌≤◌, ◌<◌, ◌+◌, ◌++◌, ℕ, List, [], map, length, Bool, true, false, Ok, Err}
use Rattle.outside.specs.declared.whole.ReadFault.{ReadFault}
use Rattle.outside.specs.declared.whole.ReadFault.TheVariants as read_faults
use Rattle.outside.specs.declared.link.LinkItem.{LinkItem}
use Rattle.outside.specs.Disks.{disk_state_of}
use Rattle.outside.specs.Links.{LinkAct}
use Rattle.ritas_base.specs.declared.event.Event.{Event}
use Rattle.ritas_base.specs.declared.plan.Plan.{Plan}
use Rattle.cluster_config.specs.declared.config.Config.{Config}
use Rattle.cluster_config.specs.declared.config.Config.TheVariants as configs
use Rattle.cluster_config.specs.declared.config.ConfigFault.{ConfigFault}
use Rattle.cluster_config.specs.declared.config.ConfigFault.TheVariants as config_faults
use Rattle.cluster_config.specs.declared.job.Job.{Job}
use Rattle.cluster_config.specs.declared.job.Job.TheVariants as jobs
use Rattle.cluster_config.specs.declared.node.NodeConfig.{NodeConfig}
use Rattle.cluster_config.specs.declared.submit.SubmitConfig.{SubmitConfig}
use Rattle.cluster_config.specs.declared.watch.WatchConfig.{WatchConfig}
use Rattle.cluster_config.specs.Cluster.{cluster_column, cluster_text}
use Rattle.cluster_config.specs.Columns.{Column, read_text}
use Rattle.cluster_config.specs.Drive.{drive_column, planned}
use Rattle.cluster_config.specs.Keys.{keys_column}
use Rattle.cluster_config.specs.Node.{node_column, node_text}
use Rattle.cluster_config.specs.Ranges.{FitsNode, FitsCluster}
use Rattle.cluster_config.specs.Submit.{submit_column}
use Rattle.cluster_config.specs.Watch.{watch_column}
use Rattle.command_log.specs.Rows.{Row}
use Rattle.schedule_replay.specs.Layers.{setting_of}
use Rattle.key_rows.specs.KeyRows.{key_rows}
use Rattle.event_journal.specs.Journal.{OpensAs}
use Rattle.event_journal.specs.declared.fault.JournalFault.{JournalFault}
use Rattle.event_journal.specs.declared.fault.JournalFault.TheVariants as journal_faults
use Rattle.node_loop.specs.declared.end.ServeEnd.{ServeEnd}
use Rattle.node_loop.specs.Outs.{Outs, Tells}
use Rattle.node_loop.specs.Keeping.{kept_of}
use Rattle.node_loop.specs.Recovering.{recalled_deeds}
use Rattle.node_session.specs.Configs.{node_header, node_session, cluster_session, first_item}
use Rattle.node_session.specs.Lives.{DiskSeen, DiskKeeps, ServesNode, Unopened, head_in}
use Rattle.node_session.specs.declared.session.Session.{Session}
use Rattle.node_loop.specs.Deeds.{Deed}
use Rattle.node_session.specs.Session.{TookAll, IsTrueSession, ServesSession}
use Rattle.request_submit.specs.declared.end.SubmitEnd.{SubmitEnd}
use Rattle.request_submit.specs.Submitting.{Submits}
use Rattle.log_watch.specs.declared.end.WatchEnd.{WatchEnd}
use Rattle.log_watch.specs.Watching.{Watches}
use Rattle.ritas.specs.Drives.{AnswersPlan}
use Rattle.ritas.specs.Run.{Replies}
use Rattle.ritas.specs.Statuses.{text_limit, limit_text, line_text, end_status, journal_status, journal_text, submit_status, submit_text, watch_status, watch_text}

-- ---- texts

-- A text of a column's lines is answered by what comes of what it says, and any other by the line of its first fault: then the link isn't
-- touched.
pub record AnswersText {K X C : Type 0} (column : Column X) (says : C → X) (tells : Bool) (taken : K → List ℕ) (old new : K) (status : ℕ) (text : List ℕ)
    (still : Type 0) (answers : C → Type 0) : Type 0 where
  pub long : text_limit < length text → Replies tells taken old new status 7 (limit_text text_limit) × still
  pub right : length text ≤ text_limit → (config : C) → read_text column text ≡ Ok (says config) → answers config
  pub wrong : length text ≤ text_limit → (line : ℕ) → read_text column text ≡ Err line → Replies tells taken old new status 3 (line_text line) × still

-- a configuration's fault is answered by its line, unless memory ran out
abbrev pub RefusesConfig : {K : Type 0} → Bool → (K → List ℕ) → K → K → ℕ → ConfigFault → Type 0
RefusesConfig tells taken old new status (config_faults.Line line) = Replies tells taken old new status 3 (line_text line)
RefusesConfig tells taken old new status config_faults.Mem = (status ≡ 8) × (new ≡ old)

-- a text that is too long is answered by its limit, unless the input failed or memory ran out
abbrev pub RefusesText : {K : Type 0} → Bool → (K → List ℕ) → K → K → ℕ → ReadFault → Type 0
RefusesText tells taken old new status read_faults.TooLong = Replies tells taken old new status 7 (limit_text text_limit)
RefusesText tells taken old new status read_faults.Failed = (status ≡ 4) × (new ≡ old)
RefusesText tells taken old new status read_faults.Mem = (status ≡ 8) × (new ≡ old)

-- ---- what is read

-- What a job took of an input that has the text of its configuration: at most one byte more than a configuration may have, and all of a text
-- within that limit, unless the input failed or memory ran out.
pub record TakesText (old new : List ℕ) (status : ℕ) : Type 0 where
  pub most : length old ≤ length new + text_limit + 1
  pub all : length old ≤ text_limit → status ≢ 4 → status ≢ 8 → new ≡ []

-- ---- what comes of a configuration

-- the input failed, or memory ran out
abbrev pub IsIdle : ℕ → Type 0
IsIdle status = (status ≡ 4) ⊎ (status ≡ 8)

-- A session was served, and the status is that of its end. Or, where the input failed or memory ran out, nothing was done.
pub data AnswersSession (session : Session) (first : List LinkItem) (tells : Tells) (base now : Outs) (untouched : Type 0) (status : ℕ) : Type 0 where
  Unserved : IsIdle status → untouched → AnswersSession session first tells base now untouched status
  Served : (end : ServeEnd) → status ≡ end_status end → ServesSession session first (setting_of session.header) tells base now end
      → AnswersSession session first tells base now untouched status

-- a journal that couldn't be opened is answered by its line, or by the status of its fault alone
abbrev pub RefusesJournal : {K : Type 0} → Bool → (K → List ℕ) → K → K → ℕ → JournalFault → Type 0
RefusesJournal tells taken old new status journal_faults.Disk = (status ≡ 9) × (new ≡ old)
RefusesJournal tells taken old new status journal_faults.Mem = (status ≡ 8) × (new ≡ old)
RefusesJournal tells taken old new status fault = Replies tells taken old new status (journal_status fault) (journal_text fault)

-- A node with a journal was served, and the status is that of its end. Or its journal couldn't be opened, which is answered, and the link isn't
-- touched. Or, where the input failed or memory ran out, nothing was done.
pub data RunsNode {K : Type 0} (config : NodeConfig) (tells : Tells) (taken : K → List ℕ) (old new : K) (base now : Outs) (d : DiskSeen) (still undisked : Type 0)
    (status : ℕ) : Type 0 where
  Idle : IsIdle status → new ≡ old → still → undisked → RunsNode config tells taken old new base now d still undisked status
  Refused : (fault : JournalFault) → Unopened config d fault → RefusesJournal tells.tape taken old new status fault → still
      → RunsNode config tells taken old new base now d still undisked status
  Lived : (end : ServeEnd) → status ≡ end_status end → ServesNode config tells base now d end → RunsNode config tells taken old new base now d still undisked status

-- with a journal or without one
abbrev pub AnswersBoth : {K : Type 0} → NodeConfig → Tells → (K → List ℕ) → K → K → Outs → Outs → DiskSeen → Type 0 → Type 0 → ℕ → Bool → Type 0
AnswersBoth config tells taken old new base now d still undisked status true = RunsNode config tells taken old new base now d still undisked status
AnswersBoth config tells taken old new base now d still undisked status false =
    AnswersSession (node_session config) [] tells base now ((new ≡ old) × still) status × undisked

-- A request was handed in to the nodes, and the line of its end was written. Or nothing was done.
pub data RunsSubmit {K : Type 0} (config : SubmitConfig) (tells : Tells) (taken : K → List ℕ) (old new : K) (base now : Outs) (untouched : Type 0) (status : ℕ) : Type 0 where
  Unasked : IsIdle status → untouched → RunsSubmit config tells taken old new base now untouched status
  Asked : (end : SubmitEnd)
      → Submits (record { numbers = config.p; client = config.request.client; request = config.request.request }) config.peers config.request.payload
      tells.link base.told now.told base.link_faults now.link_faults end
      → Replies tells.tape taken old new status (submit_status end) (submit_text end) → RunsSubmit config tells taken old new base now untouched status

-- A log was watched, and the lines of its rows were written, which are those of an observer over the link's replies. Or
-- nothing was done.
pub data RunsWatch {K : Type 0} (config : WatchConfig) (tells : Tells) (taken : K → List ℕ) (old new : K) (base now : Outs) (untouched : Type 0) (status : ℕ) : Type 0 where
  Unwatched : IsIdle status → untouched → RunsWatch config tells taken old new base now untouched status
  Watched : (end : WatchEnd) (rows : List Row)
      → Watches config.p config.peers config.until rows tells.link base.told now.told base.link_faults now.link_faults end
      → Replies tells.tape taken old new status (watch_status end) (watch_text rows end) → RunsWatch config tells taken old new base now untouched status

-- where the status of a session is 0, these events were served, and these calls of the link made, for these reasons, after the earlier ones of
-- lives before
pub record HasServed (session : Session) (earlier : List Deed) (tells : Tells) (base now : Outs) : Type 0 where
  pub events : List Event
  pub deeds : List Deed
  pub acts : List LinkAct
  pub took : TookAll session.header session.plan tells base now events acts
  pub true_of : IsTrueSession session.header (setting_of session.header) events earlier deeds acts

-- Where that of a node with a journal is 0, the disk's file opened as past events, which the output took in front of the later ones that were
-- served; and every image opens now as the past ones and, of the later ones, those that a journal keeps.
pub record HasLived (config : NodeConfig) (tells : Tells) (base now : Outs) (d : DiskSeen) : Type 0 where
  pub past : List Event
  pub later : List Event
  pub opened : d.tells ≡ true → OpensAs config.me (head_in config) (disk_state_of d.before).seen past
  pub served : HasServed (node_session config) (recalled_deeds (setting_of (node_header config)) past) tells base now
  pub all : served.events ≡ later ++ past
  pub kept : DiskKeeps config.me (head_in config) past d (kept_of (setting_of (node_header config)) past later)

-- ---- each job that reads a configuration

abbrev pub IsDrive : Job → Type 0
IsDrive (jobs.Drive what) = Unit {0}
IsDrive job = ⊥

-- a plan is that of a job that drives, and a configuration's numbers are within their ranges
abbrev pub FitsConfig : Job → Config → Type 0
FitsConfig job (configs.Drive plan) = IsDrive job
FitsConfig job (configs.Node node) = (job ≡ jobs.Node) × FitsNode (node_text node)
FitsConfig job (configs.Cluster cluster) = FitsCluster (cluster_text cluster)
FitsConfig job other = Unit {0}

-- what comes of a plan is that of what is asked for of its schedule
abbrev pub DrivesPlan : {K : Type 0} → Bool → (K → List ℕ) → K → K → ℕ → Job → Plan → Type 0
DrivesPlan tells taken old new status (jobs.Drive what) plan = AnswersPlan tells taken old new what status plan
DrivesPlan tells taken old new status job plan = ⊥

module _ {K : Type 0} (tells : Tells) (taken : K → List ℕ) (old new : K) (base now : Outs) (d : DiskSeen) (still undisked : Type 0) (status : ℕ) where
  -- what comes of a configuration
  abbrev pub AnswersConfig : Job → Config → Type 0
  AnswersConfig job (configs.Drive plan) = DrivesPlan tells.tape taken old new status job plan × still
  AnswersConfig job (configs.Keys keys) = Replies tells.tape taken old new status 0 (key_rows keys.master keys.session keys.p.n) × still
  AnswersConfig job (configs.Node node) = AnswersBoth node tells taken old new base now d still undisked status node.journal
  AnswersConfig job (configs.Cluster cluster) = AnswersSession (cluster_session cluster) (map first_item cluster.requests) tells base now ((new ≡ old) × still) status
  AnswersConfig job (configs.Submit submit) = RunsSubmit submit tells taken old new base now ((new ≡ old) × still) status
  AnswersConfig job (configs.Watch watch) = RunsWatch watch tells taken old new base now ((new ≡ old) × still) status

  -- a text of these lines is answered by what comes of the configuration that it says
  abbrev pub AnswersLines : {X C : Type 0} → Column X → (C → X) → (C → Config) → List ℕ → Job → Type 0
  AnswersLines column says config text job = AnswersText column says tells.tape taken old new status text (still × undisked) (λ c. AnswersConfig job (config c))

  -- what comes of the text of a job's configuration
  abbrev pub AnswersJob : List ℕ → Job → Type 0
  AnswersJob text (jobs.Replay what) = Unit {0}
  AnswersJob text (jobs.Drive what) = AnswersLines drive_column planned configs.Drive text (jobs.Drive what)
  AnswersJob text jobs.Keys = AnswersLines keys_column (λ keys. keys) configs.Keys text jobs.Keys
  AnswersJob text jobs.Node = AnswersLines node_column node_text configs.Node text jobs.Node
  AnswersJob text jobs.Cluster = AnswersLines cluster_column cluster_text configs.Cluster text jobs.Cluster
  AnswersJob text jobs.Submit = AnswersLines submit_column (λ submit. submit) configs.Submit text jobs.Submit
  AnswersJob text jobs.Watch = AnswersLines watch_column (λ watch. watch) configs.Watch text jobs.Watch
