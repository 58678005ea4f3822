-- What is answered to the configuration of each job.
use Rattle.std.proofs.Common.{◌≡◌, ◌≢◌, ℕ, ◌<◌, ◌≤◌, Bool, List, true, false, length, Result, Ok, Err, refl, sym, inl, inr, subst, arith}
use Rattle.outside.specs.declared.whole.ReadFault.{ReadFault}
use Rattle.outside.specs.declared.whole.ReadFault.TheVariants as read_faults
use Rattle.ritas_base.specs.declared.plan.Plan.{Plan}
use Rattle.ritas_base.specs.declared.what.What.{What}
use Rattle.ritas_base.specs.declared.what.DriveWhat.{DriveWhat}
use Rattle.cluster_config.specs.declared.config.Config.{Config}
use Rattle.cluster_config.specs.declared.config.Config.TheVariants as configs
use Rattle.cluster_config.specs.declared.config.ConfigFault.{ConfigFault}
use Rattle.cluster_config.specs.declared.config.ConfigFault.TheVariants as config_faults
use Rattle.cluster_config.specs.declared.job.Job.{Job}
use Rattle.cluster_config.specs.declared.job.Job.TheVariants as jobs
use Rattle.cluster_config.specs.declared.node.NodeConfig.{NodeConfig}
use Rattle.cluster_config.specs.declared.submit.SubmitConfig.{SubmitConfig}
use Rattle.cluster_config.specs.Cluster.{ClusterText, cluster_column, cluster_text}
use Rattle.cluster_config.specs.Columns.{read_text}
use Rattle.cluster_config.specs.Config.{AnswersDrive, AnswersKeys, AnswersNode, AnswersCluster, AnswersSubmit as ReadsSubmit, AnswersWatch as ReadsWatch}
use Rattle.cluster_config.specs.Drive.{drive_column, planned}
use Rattle.cluster_config.specs.Keys.{keys_column}
use Rattle.cluster_config.specs.Node.{NodeText, node_column, node_text}
use Rattle.cluster_config.specs.Ranges.{FitsNode, FitsCluster}
use Rattle.cluster_config.specs.Submit.{submit_column}
use Rattle.cluster_config.specs.Watch.{watch_column}
use Rattle.key_rows.specs.KeyRows.{key_rows}
use Rattle.node_loop.specs.Outs.{Outs, Tells}
use Rattle.node_session.specs.Lives.{DiskSeen}
use Rattle.ritas.specs.Configs.{AnswersBoth, Idle, Unserved, RunsSubmit, Unasked, Asked, Unwatched, AnswersConfig, AnswersJob, FitsConfig, IsIdle, RefusesConfig, RefusesText}
use Rattle.ritas.specs.Drives.{AnswersPlan}
use Rattle.ritas.specs.Run.{Replies, is_linked}
use Rattle.request_submit.specs.declared.end.SubmitEnd.{SubmitEnd}
use Rattle.request_submit.specs.Submitting.{Submits}
use Rattle.ritas.specs.Statuses.{text_limit, limit_text, submit_status, submit_text}
use Rattle.ritas.proofs.Ones.{one_plan, one_node, one_cluster}
use Rattle.ritas.proofs.Texts.{idle_replies, right_text, wrong_text, long_text, idle_text}

-- what is read of the text of a job
abbrev pub ReadsJob : Job → List ℕ → Result Config ConfigFault → Type 0
ReadsJob (jobs.Replay what) text result = ⊥
ReadsJob (jobs.Drive what) text result = AnswersDrive text result
ReadsJob jobs.Keys text result = AnswersKeys text result
ReadsJob jobs.Node text result = AnswersNode text result
ReadsJob jobs.Cluster text result = AnswersCluster text result
ReadsJob jobs.Submit text result = ReadsSubmit text result
ReadsJob jobs.Watch text result = ReadsWatch text result

pub reads_job : (job : Job) (text : List ℕ) (result : Result Config ConfigFault) → ((what : What) → job ≢ jobs.Replay what)
    → ((what : DriveWhat) → job ≡ jobs.Drive what → AnswersDrive text result) → (job ≡ jobs.Keys → AnswersKeys text result)
    → (job ≡ jobs.Node → AnswersNode text result) → (job ≡ jobs.Cluster → AnswersCluster text result) → (job ≡ jobs.Submit → ReadsSubmit text result) → (job ≡ jobs.Watch → ReadsWatch text result)
    → ReadsJob job text result
reads_job (jobs.Replay what) text result other drive keys node cluster submit watch = absurd (other what refl)
reads_job (jobs.Drive what) text result other drive keys node cluster submit watch = drive what refl
reads_job jobs.Keys text result other drive keys node cluster submit watch = keys refl
reads_job jobs.Node text result other drive keys node cluster submit watch = node refl
reads_job jobs.Cluster text result other drive keys node cluster submit watch = cluster refl
reads_job jobs.Submit text result other drive keys node cluster submit watch = submit refl
reads_job jobs.Watch text result other drive keys node cluster submit watch = watch refl

-- ---- ranges

pub fits_config : (job : Job) (text : List ℕ) (config : Config) → ReadsJob job text (Ok config)
    → ((x : NodeText) → read_text node_column text ≡ Ok x → FitsNode x) → ((x : ClusterText) → read_text cluster_column text ≡ Ok x → FitsCluster x) → FitsConfig job config
fits_config (jobs.Replay what) text config none node cluster = absurd none
fits_config (jobs.Drive what) text (configs.Drive plan) reads node cluster = tt
fits_config (jobs.Drive what) text (configs.Keys c) none node cluster = absurd none
fits_config (jobs.Drive what) text (configs.Node c) none node cluster = absurd none
fits_config (jobs.Drive what) text (configs.Cluster c) none node cluster = absurd none
fits_config (jobs.Drive what) text (configs.Submit c) none node cluster = absurd none
fits_config (jobs.Drive what) text (configs.Watch c) none node cluster = absurd none
fits_config jobs.Keys text (configs.Keys c) reads node cluster = tt
fits_config jobs.Keys text (configs.Drive c) none node cluster = absurd none
fits_config jobs.Keys text (configs.Node c) none node cluster = absurd none
fits_config jobs.Keys text (configs.Cluster c) none node cluster = absurd none
fits_config jobs.Keys text (configs.Submit c) none node cluster = absurd none
fits_config jobs.Keys text (configs.Watch c) none node cluster = absurd none
fits_config jobs.Node text (configs.Node c) reads node cluster = (refl, node (node_text c) reads)
fits_config jobs.Node text (configs.Drive c) none node cluster = absurd none
fits_config jobs.Node text (configs.Keys c) none node cluster = absurd none
fits_config jobs.Node text (configs.Cluster c) none node cluster = absurd none
fits_config jobs.Node text (configs.Submit c) none node cluster = absurd none
fits_config jobs.Node text (configs.Watch c) none node cluster = absurd none
fits_config jobs.Cluster text (configs.Cluster c) reads node cluster = cluster (cluster_text c) reads
fits_config jobs.Cluster text (configs.Drive c) none node cluster = absurd none
fits_config jobs.Cluster text (configs.Keys c) none node cluster = absurd none
fits_config jobs.Cluster text (configs.Node c) none node cluster = absurd none
fits_config jobs.Cluster text (configs.Submit c) none node cluster = absurd none
fits_config jobs.Cluster text (configs.Watch c) none node cluster = absurd none
fits_config jobs.Submit text (configs.Submit c) reads node cluster = tt
fits_config jobs.Submit text (configs.Drive c) none node cluster = absurd none
fits_config jobs.Submit text (configs.Keys c) none node cluster = absurd none
fits_config jobs.Submit text (configs.Node c) none node cluster = absurd none
fits_config jobs.Submit text (configs.Cluster c) none node cluster = absurd none
fits_config jobs.Submit text (configs.Watch c) none node cluster = absurd none
fits_config jobs.Watch text (configs.Watch c) reads node cluster = tt
fits_config jobs.Watch text (configs.Drive c) none node cluster = absurd none
fits_config jobs.Watch text (configs.Keys c) none node cluster = absurd none
fits_config jobs.Watch text (configs.Node c) none node cluster = absurd none
fits_config jobs.Watch text (configs.Cluster c) none node cluster = absurd none
fits_config jobs.Watch text (configs.Submit c) none node cluster = absurd none

-- ---- answers

module _ {K : Type 0} (tells : Tells) (taken : K → List ℕ) (old new : K) (base now : Outs) (d : DiskSeen) (still undisked : Type 0) (status : ℕ) (text : List ℕ) where
  abbrev IsJobAnswered : Job → Type 0
  IsJobAnswered = AnswersJob tells taken old new base now d still undisked status text

  abbrev IsConfigAnswered : Job → Config → Type 0
  IsConfigAnswered = AnswersConfig tells taken old new base now d still undisked status

  -- nothing was done
  idle_plan : IsIdle status → new ≡ old → (what : DriveWhat) (plan : Plan) → AnswersPlan tells.tape taken old new what status plan
  idle_plan idle same what plan = record {
    made = λ none. idle_replies tells.tape taken old new status _ _ idle same;
    passes = λ x met. idle_replies tells.tape taken old new status 7 (limit_text x) idle same;
    agree = λ zero. absurd (no_zero idle zero);
    wanting = λ _. same;
  }
    where
      no_zero : IsIdle status → status ≡ 0 → ⊥
      no_zero (inl four) zero = omega (arith, four, zero)
      no_zero (inr eight) zero = omega (arith, eight, zero)

  idle_node : (node : NodeConfig) (b : Bool) → IsIdle status → new ≡ old → still → undisked → AnswersBoth node tells taken old new base now d still undisked status b
  idle_node node true idle same link disk = Idle idle same link disk
  idle_node node false idle same link disk = (Unserved idle (same, link), disk)

  pub idle_job : (job : Job) → IsIdle status → new ≡ old → still → undisked → IsJobAnswered job
  idle_job (jobs.Replay what) idle same link disk = tt
  idle_job (jobs.Drive what) idle same link disk = idle_text drive_column planned tells.tape taken old new status text (still × undisked) _ idle same (link, disk) (λ plan. (idle_plan idle same what plan, link))
  idle_job jobs.Keys idle same link disk = idle_text keys_column (λ keys. keys) tells.tape taken old new status text (still × undisked) _ idle same (link, disk)
      (λ keys. (idle_replies tells.tape taken old new status 0 (key_rows keys.master keys.session keys.p.n) idle same, link))
  idle_job jobs.Node idle same link disk = idle_text node_column node_text tells.tape taken old new status text (still × undisked) _ idle same (link, disk) (λ node. idle_node node node.journal idle same link disk)
  idle_job jobs.Cluster idle same link disk = idle_text cluster_column cluster_text tells.tape taken old new status text (still × undisked) _ idle same (link, disk) (λ cluster. Unserved idle (same, link))
  idle_job jobs.Submit idle same link disk = idle_text submit_column (λ submit. submit) tells.tape taken old new status text (still × undisked) _ idle same (link, disk) (λ submit. Unasked idle (same, link))
  idle_job jobs.Watch idle same link disk = idle_text watch_column (λ watch. watch) tells.tape taken old new status text (still × undisked) _ idle same (link, disk) (λ watch. Unwatched idle (same, link))

  -- the text is too long
  pub long_job : (job : Job) → text_limit < length text → Replies tells.tape taken old new status 7 (limit_text text_limit) → still × undisked → IsJobAnswered job
  long_job (jobs.Replay what) over replies link = tt
  long_job (jobs.Drive what) over replies link = long_text drive_column planned tells.tape taken old new status text (still × undisked) _ over replies link
  long_job jobs.Keys over replies link = long_text keys_column (λ keys. keys) tells.tape taken old new status text (still × undisked) _ over replies link
  long_job jobs.Node over replies link = long_text node_column node_text tells.tape taken old new status text (still × undisked) _ over replies link
  long_job jobs.Cluster over replies link = long_text cluster_column cluster_text tells.tape taken old new status text (still × undisked) _ over replies link
  long_job jobs.Submit over replies link = long_text submit_column (λ submit. submit) tells.tape taken old new status text (still × undisked) _ over replies link
  long_job jobs.Watch over replies link = long_text watch_column (λ watch. watch) tells.tape taken old new status text (still × undisked) _ over replies link

  -- a line is wrong, or memory ran out
  pub fault_job : (job : Job) (fault : ConfigFault) → ReadsJob job text (Err fault) → length text ≤ text_limit → RefusesConfig tells.tape taken old new status fault → still × undisked → IsJobAnswered job
  fault_job job config_faults.Mem reads within refuses link = idle_job job (inr refuses.0) refuses.1 link.0 link.1
  fault_job (jobs.Replay what) (config_faults.Line k) reads within refuses link = tt
  fault_job (jobs.Drive what) (config_faults.Line k) reads within refuses link = wrong_text drive_column planned tells.tape taken old new status text (still × undisked) _ within k reads refuses link
  fault_job jobs.Keys (config_faults.Line k) reads within refuses link = wrong_text keys_column (λ keys. keys) tells.tape taken old new status text (still × undisked) _ within k reads refuses link
  fault_job jobs.Node (config_faults.Line k) reads within refuses link = wrong_text node_column node_text tells.tape taken old new status text (still × undisked) _ within k reads refuses link
  fault_job jobs.Cluster (config_faults.Line k) reads within refuses link = wrong_text cluster_column cluster_text tells.tape taken old new status text (still × undisked) _ within k reads refuses link
  fault_job jobs.Submit (config_faults.Line k) reads within refuses link = wrong_text submit_column (λ submit. submit) tells.tape taken old new status text (still × undisked) _ within k reads refuses link
  fault_job jobs.Watch (config_faults.Line k) reads within refuses link = wrong_text watch_column (λ watch. watch) tells.tape taken old new status text (still × undisked) _ within k reads refuses link

  -- the job was done
  pub done_job : (job : Job) (config : Config) → ReadsJob job text (Ok config) → length text ≤ text_limit → IsConfigAnswered job config → IsJobAnswered job
  done_job (jobs.Replay what) config none within answers = absurd none
  done_job (jobs.Drive what) (configs.Drive plan) reads within answers =
      right_text drive_column planned tells.tape taken old new status text (still × undisked) _ one_plan within plan reads answers
  done_job (jobs.Drive what) (configs.Keys c) none within answers = absurd none
  done_job (jobs.Drive what) (configs.Node c) none within answers = absurd none
  done_job (jobs.Drive what) (configs.Cluster c) none within answers = absurd none
  done_job (jobs.Drive what) (configs.Submit c) none within answers = absurd none
  done_job (jobs.Drive what) (configs.Watch c) none within answers = absurd none
  done_job jobs.Keys (configs.Keys keys) reads within answers =
      right_text keys_column (λ keys. keys) tells.tape taken old new status text (still × undisked) _ (λ c d e. e) within keys reads answers
  done_job jobs.Keys (configs.Drive c) none within answers = absurd none
  done_job jobs.Keys (configs.Node c) none within answers = absurd none
  done_job jobs.Keys (configs.Cluster c) none within answers = absurd none
  done_job jobs.Keys (configs.Submit c) none within answers = absurd none
  done_job jobs.Keys (configs.Watch c) none within answers = absurd none
  done_job jobs.Node (configs.Node node) reads within answers =
      right_text node_column node_text tells.tape taken old new status text (still × undisked) _ one_node within node reads answers
  done_job jobs.Node (configs.Drive c) none within answers = absurd none
  done_job jobs.Node (configs.Keys c) none within answers = absurd none
  done_job jobs.Node (configs.Cluster c) none within answers = absurd none
  done_job jobs.Node (configs.Submit c) none within answers = absurd none
  done_job jobs.Node (configs.Watch c) none within answers = absurd none
  done_job jobs.Cluster (configs.Cluster cluster) reads within answers =
      right_text cluster_column cluster_text tells.tape taken old new status text (still × undisked) _ one_cluster within cluster reads answers
  done_job jobs.Cluster (configs.Drive c) none within answers = absurd none
  done_job jobs.Cluster (configs.Keys c) none within answers = absurd none
  done_job jobs.Cluster (configs.Node c) none within answers = absurd none
  done_job jobs.Cluster (configs.Submit c) none within answers = absurd none
  done_job jobs.Cluster (configs.Watch c) none within answers = absurd none
  done_job jobs.Submit (configs.Submit submit) reads within answers =
      right_text submit_column (λ submit. submit) tells.tape taken old new status text (still × undisked) _ (λ c d e. e) within submit reads answers
  done_job jobs.Submit (configs.Drive c) none within answers = absurd none
  done_job jobs.Submit (configs.Keys c) none within answers = absurd none
  done_job jobs.Submit (configs.Node c) none within answers = absurd none
  done_job jobs.Submit (configs.Cluster c) none within answers = absurd none
  done_job jobs.Submit (configs.Watch c) none within answers = absurd none
  done_job jobs.Watch (configs.Watch watch) reads within answers =
      right_text watch_column (λ watch. watch) tells.tape taken old new status text (still × undisked) _ (λ c d e. e) within watch reads answers
  done_job jobs.Watch (configs.Drive c) none within answers = absurd none
  done_job jobs.Watch (configs.Keys c) none within answers = absurd none
  done_job jobs.Watch (configs.Node c) none within answers = absurd none
  done_job jobs.Watch (configs.Cluster c) none within answers = absurd none
  done_job jobs.Watch (configs.Submit c) none within answers = absurd none

  -- a job that uses no link
  pub done_quiet : (job : Job) (config : Config) → ReadsJob job text (Ok config) → IsConfigAnswered job config → is_linked job ≡ false → still
  done_quiet (jobs.Replay what) config none answers quiet = absurd none
  done_quiet (jobs.Drive what) (configs.Drive plan) reads answers quiet = answers.1
  done_quiet (jobs.Drive what) (configs.Keys c) none answers quiet = absurd none
  done_quiet (jobs.Drive what) (configs.Node c) none answers quiet = absurd none
  done_quiet (jobs.Drive what) (configs.Cluster c) none answers quiet = absurd none
  done_quiet (jobs.Drive what) (configs.Submit c) none answers quiet = absurd none
  done_quiet (jobs.Drive what) (configs.Watch c) none answers quiet = absurd none
  done_quiet jobs.Keys (configs.Keys keys) reads answers quiet = answers.1
  done_quiet jobs.Keys (configs.Drive c) none answers quiet = absurd none
  done_quiet jobs.Keys (configs.Node c) none answers quiet = absurd none
  done_quiet jobs.Keys (configs.Cluster c) none answers quiet = absurd none
  done_quiet jobs.Keys (configs.Submit c) none answers quiet = absurd none
  done_quiet jobs.Keys (configs.Watch c) none answers quiet = absurd none
  done_quiet jobs.Node config reads answers quiet = absurd (cc)
  done_quiet jobs.Cluster config reads answers quiet = absurd (cc)
  done_quiet jobs.Submit config reads answers quiet = absurd (cc)
  done_quiet jobs.Watch config reads answers quiet = absurd (cc)

  -- a schedule that was made: nothing is written at 8
  pub done_plan : (what : DriveWhat) (config : Config) → AnswersDrive text (Ok config) → IsConfigAnswered (jobs.Drive what) config → status ≡ 8 → new ≡ old
  done_plan what (configs.Drive plan) reads answers eight = answers.0.wanting eight
  done_plan what (configs.Keys c) none answers eight = absurd none
  done_plan what (configs.Node c) none answers eight = absurd none
  done_plan what (configs.Cluster c) none answers eight = absurd none
  done_plan what (configs.Submit c) none answers eight = absurd none
  done_plan what (configs.Watch c) none answers eight = absurd none

  -- the text wasn't read whole
  pub text_job : (job : Job) (fault : ReadFault) → (fault ≢ read_faults.Failed → fault ≢ read_faults.Mem → fault ≡ read_faults.TooLong → text_limit < length text)
      → RefusesText tells.tape taken old new status fault → still × undisked → IsJobAnswered job
  unfolding text_limit
  text_job job read_faults.TooLong over refuses link = long_job job (over (λ e. cc) (λ e. cc) refl) refuses link
  text_job job read_faults.Failed over refuses link = idle_job job (inl refuses.0) refuses.1 link.0 link.1
  text_job job read_faults.Mem over refuses link = idle_job job (inr refuses.0) refuses.1 link.0 link.1

-- of the same job, and of the same text
module _ {K : Type 0} (tells : Tells) (taken : K → List ℕ) (old new : K) (base now : Outs) (d : DiskSeen) (still undisked : Type 0) (status : ℕ) where
  pub of_job : (text : List ℕ) (a b : Job) → a ≡ b → AnswersJob tells taken old new base now d still undisked status text a → AnswersJob tells taken old new base now d still undisked status text b
  of_job text a b same answers = subst (AnswersJob tells taken old new base now d still undisked status text) same answers

  pub of_text : (job : Job) (text other : List ℕ) → text ≡ other → AnswersJob tells taken old new base now d still undisked status text job
      → AnswersJob tells taken old new base now d still undisked status other job
  of_text job text other same answers = subst (λ (t : List ℕ). AnswersJob tells taken old new base now d still undisked status t job) same answers

  -- of a configuration of this kind
  pub of_config : (job : Job) (config kind : Config) → config ≡ kind → AnswersConfig tells taken old new base now d still undisked status job kind
      → AnswersConfig tells taken old new base now d still undisked status job config
  of_config job config kind same answers = subst (AnswersConfig tells taken old new base now d still undisked status job) (sym same) answers

  -- of a request with this payload
  pub of_payload : (config : SubmitConfig) (end : SubmitEnd) (payload : List ℕ) (untouched : Type 0) → payload ≡ config.request.payload
      → Submits (record { numbers = config.p; client = config.request.client; request = config.request.request }) config.peers payload
      tells.link base.told now.told base.link_faults now.link_faults end
      → Replies tells.tape taken old new status (submit_status end) (submit_text end) → RunsSubmit config tells taken old new base now untouched status
  of_payload config end payload untouched same submits replies =
      Asked end (subst (λ (p : List ℕ). Submits (record { numbers = config.p; client = config.request.client; request = config.request.request }) config.peers p tells.link base.told now.told base.link_faults now.link_faults end) same submits) replies
