-- The job of words that begin with no hyphen.
use Rattle.std.proofs.Common.{◌≡◌, ◌∙◌, ◌↔◌, Bool, true, false, List, [], ◌∷◌, Option, Some, None, refl, ap, sym, subst, codes}
use Rattle.std.specs.Prelude.{if◌then◌else◌}
use Rattle.std.specs.List.{AllByRecursion}
use Rattle.std.specs.Str.{bytes_eq}
use Rattle.std.proofs.lemmas.Slice.Eq.{bytes_eq-Decides}
use Rattle.clap.specs.Words.{Text, fault_of, first_of}
use Rattle.clap.specs.Simple.{rows_at}
use Rattle.clap.specs.declared.error.kind.ErrorKind.TheVariants as kind
use Rattle.clap.proofs.OnLiterals.{clap_on_literals}
use Rattle.ritas_base.specs.declared.what.What.TheVariants as what
use Rattle.ritas_base.specs.declared.what.DriveWhat.TheVariants as drive_what
use Rattle.cluster_config.specs.declared.job.Job.{Job}
use Rattle.cluster_config.specs.declared.job.Job.TheVariants.{Replay, Drive, Keys, Node, Cluster, Submit, Watch}
use Rattle.cluster_config.specs.Words.{is_hyphened, job_of, job_named, replay_named, drive_named, list_of}
use Rattle.cluster_config.specs.Command.{alone, with_value, ritas}
use Rattle.cluster_config.proofs.Walks.{sub, no_hyphen, no_dashes, no_value, one_value, two_values, value_is, nothing, something}
use Rattle.cluster_config.proofs.Entered.{IsEntered, replay_entered, drive_entered, keys_entered, node_entered, cluster_entered, submit_entered, watch_entered}

-- ---- words that enter no subcommand

record Unnamed (w : Text) : Type 0 where
  replay : bytes_eq (codes "replay") w ≡ false
  drive : bytes_eq (codes "drive") w ≡ false
  keys : bytes_eq (codes "keys") w ≡ false
  node : bytes_eq (codes "node") w ≡ false
  cluster : bytes_eq (codes "cluster") w ≡ false
  submit : bytes_eq (codes "submit") w ≡ false
  watch : bytes_eq (codes "watch") w ≡ false

stray : (n w : Text) (rest : List Text) → is_hyphened w ≡ false → Unnamed w → fault_of ritas (n ∷ w ∷ rest) ≡ kind.UnknownArgument ∷ kind.InvalidSubcommand ∷ []
unfolding clap_on_literals
stray n w rest plain unnamed =
    let stripped = no_hyphen w plain in
    let dashes = no_dashes w plain in
    rw (unnamed.replay, unnamed.drive, unnamed.keys, unnamed.node, unnamed.cluster, unnamed.submit, unnamed.watch, dashes, stripped, stripped) refl

none : (n : Text) → fault_of ritas (n ∷ []) ≡ kind.MissingSubcommand ∷ []
unfolding clap_on_literals
none n = refl

-- ---- the job that the words list

abbrev with_one : (Option Text → Option Job) → List Text → Option Job
with_one f [] = None
with_one f (v ∷ []) = f (Some v)
with_one f (v ∷ u ∷ rest) = None

abbrev with_none : Job → List Text → Option Job
with_none job [] = Some job
with_none job (v ∷ rest) = None

abbrev listed : List Text → Option Job
listed [] = None
listed (w ∷ rest) = if bytes_eq (codes "replay") w then with_one replay_named rest
    else (if bytes_eq (codes "drive") w then with_one drive_named rest
    else (if bytes_eq (codes "keys") w then with_none Keys rest
    else (if bytes_eq (codes "node") w then with_none Node rest
    else (if bytes_eq (codes "cluster") w then with_none Cluster rest
    else (if bytes_eq (codes "submit") w then with_none Submit rest
    else (if bytes_eq (codes "watch") w then with_none Watch rest else None))))))

abbrev ArePlain : List Text → Type 0
ArePlain = AllByRecursion (λ w. is_hyphened w ≡ false)

valued : (w : Text) (f : Option Text → Option Job) → IsEntered w (with_value w) → ((o : Option Text) → job_named w o ≡ f o)
    → (n : Text) (rest : List Text) → ArePlain rest → job_of (n ∷ w ∷ rest) ≡ with_one f rest
unfolding job_of
valued w f is same n [] plain = rw (is.faults n [], no_value w) refl
valued w f is same n (v ∷ []) plain = rw (is.faults n (v ∷ []), one_value w v plain.0, is.meets n (v ∷ []), value_is w v plain.0) (same (Some v))
valued w f is same n (v ∷ u ∷ rest) plain = rw (is.faults n (v ∷ u ∷ rest), two_values w v u rest plain.0 plain.1.0) refl

single : (w : Text) (job : Job) → IsEntered w (alone w) → ((o : Option Text) → job_named w o ≡ Some job)
    → (n : Text) (rest : List Text) → ArePlain rest → job_of (n ∷ w ∷ rest) ≡ with_none job rest
unfolding job_of
single w job is same n [] plain = rw (is.faults n [], nothing w, is.meets n []) (same (first_of (codes "what") (rows_at (sub (alone w)) []).1))
single w job is same n (v ∷ rest) plain = rw (is.faults n (v ∷ rest), something w v rest plain.0) refl

pick : (b : Bool) (g one other : Option Job) → (b ≡ true → g ≡ one) → (b ≡ false → g ≡ other) → g ≡ (if b then one else other)
pick true g one other f h = f refl
pick false g one other f h = h refl

named : (n w name : Text) (rest : List Text) (job : Option Job) → job_of (n ∷ name ∷ rest) ≡ job → bytes_eq name w ≡ true → job_of (n ∷ w ∷ rest) ≡ job
named n w name rest job at same = subst (λ (v : Text). job_of (n ∷ v ∷ rest) ≡ job) ((bytes_eq-Decides name w).0 same) at

stray_job : (n w : Text) (rest : List Text) → is_hyphened w ≡ false → Unnamed w → job_of (n ∷ w ∷ rest) ≡ None
unfolding job_of
stray_job n w rest plain unnamed = rw (stray n w rest plain unnamed) refl

no_job : (n : Text) → job_of (n ∷ []) ≡ None
unfolding job_of
no_job n = rw (none n) refl

job_listed : (n : Text) (words : List Text) → ArePlain words → job_of (n ∷ words) ≡ listed words
job_listed n [] plain = no_job n
job_listed n (w ∷ rest) plain =
    let at = job_of (n ∷ w ∷ rest) in
    pick (bytes_eq (codes "replay") w) at _ _ (named n w (codes "replay") rest _ (valued (codes "replay") replay_named replay_entered (λ o. refl) n rest plain.1)) (λ replay.
    pick (bytes_eq (codes "drive") w) at _ _ (named n w (codes "drive") rest _ (valued (codes "drive") drive_named drive_entered (λ o. refl) n rest plain.1)) (λ drive.
    pick (bytes_eq (codes "keys") w) at _ _ (named n w (codes "keys") rest _ (single (codes "keys") Keys keys_entered (λ o. refl) n rest plain.1)) (λ keys.
    pick (bytes_eq (codes "node") w) at _ _ (named n w (codes "node") rest _ (single (codes "node") Node node_entered (λ o. refl) n rest plain.1)) (λ node.
    pick (bytes_eq (codes "cluster") w) at _ _ (named n w (codes "cluster") rest _ (single (codes "cluster") Cluster cluster_entered (λ o. refl) n rest plain.1)) (λ cluster.
    pick (bytes_eq (codes "submit") w) at _ _ (named n w (codes "submit") rest _ (single (codes "submit") Submit submit_entered (λ o. refl) n rest plain.1)) (λ submit.
    pick (bytes_eq (codes "watch") w) at _ _ (named n w (codes "watch") rest _ (single (codes "watch") Watch watch_entered (λ o. refl) n rest plain.1)) (λ watch.
    stray_job n w rest plain.0
    (record { replay = replay; drive = drive; keys = keys; node = node; cluster = cluster; submit = submit; watch = watch }))))))))

-- ---- the lists of the table

listed_back : (job : Job) → listed (list_of job) ≡ Some job
listed_back (Replay what.Report) = refl
listed_back (Replay what.Frames) = refl
listed_back (Replay what.Vectors) = refl
listed_back (Drive drive_what.Report) = refl
listed_back (Drive drive_what.Schedule) = refl
listed_back Keys = refl
listed_back Node = refl
listed_back Cluster = refl
listed_back Submit = refl
listed_back Watch = refl

split : {G : Type 0} (b : Bool) (one other : Option Job) (job : Job) → (b ≡ true → one ≡ Some job → G) → (other ≡ Some job → G) → (if b then one else other) ≡ Some job → G
split true one other job f h e = f refl e
split false one other job f h e = h e

word_is : (name w : Text) → bytes_eq name w ≡ true → w ≡ name
word_is name w same = sym ((bytes_eq-Decides name w).0 same)

is_job : (j job : Job) → Some j ≡ Some job → j ≡ job
is_job j job e = cc

value_of : (f : Option Text → Option Job) (rest : List Text) (job : Job) → with_one f rest ≡ Some job → (v : Text) × (rest ≡ v ∷ []) × (f (Some v) ≡ Some job)
value_of f [] job e = absurd cc
value_of f (v ∷ []) job e = (v, refl, e)
value_of f (v ∷ u ∷ rest) job e = absurd cc

replay_value : (v : Text) (job : Job) → replay_named (Some v) ≡ Some job → codes "replay" ∷ v ∷ [] ≡ list_of job
replay_value v job =
    split (bytes_eq v (codes "report")) _ _ job (λ same e. rw (← is_job (Replay what.Report) job e, (bytes_eq-Decides v (codes "report")).0 same) refl)
    (split (bytes_eq v (codes "frames")) _ _ job (λ same e. rw (← is_job (Replay what.Frames) job e, (bytes_eq-Decides v (codes "frames")).0 same) refl)
    (split (bytes_eq v (codes "vectors")) _ _ job (λ same e. rw (← is_job (Replay what.Vectors) job e, (bytes_eq-Decides v (codes "vectors")).0 same) refl) (λ e. absurd cc)))

drive_value : (v : Text) (job : Job) → drive_named (Some v) ≡ Some job → codes "drive" ∷ v ∷ [] ≡ list_of job
drive_value v job =
    split (bytes_eq v (codes "report")) _ _ job (λ same e. rw (← is_job (Drive drive_what.Report) job e, (bytes_eq-Decides v (codes "report")).0 same) refl)
    (split (bytes_eq v (codes "schedule")) _ _ job (λ same e. rw (← is_job (Drive drive_what.Schedule) job e, (bytes_eq-Decides v (codes "schedule")).0 same) refl) (λ e. absurd cc))

valued_is : (f : Option Text → Option Job) (name w : Text) (rest : List Text) (job : Job) → ((v : Text) → f (Some v) ≡ Some job → name ∷ v ∷ [] ≡ list_of job)
    → bytes_eq name w ≡ true → with_one f rest ≡ Some job → w ∷ rest ≡ list_of job
valued_is f name w rest job back same e =
    let value = value_of f rest job e in
    rw (word_is name w same, value.1) (back value.0 value.2)

single_is : (one : Job) (name w : Text) (rest : List Text) (job : Job) → name ∷ [] ≡ list_of one
    → bytes_eq name w ≡ true → with_none one rest ≡ Some job → w ∷ rest ≡ list_of job
single_is one name w [] job back same e = rw (word_is name w same, ← is_job one job e) back
single_is one name w (v ∷ rest) job back same e = absurd cc

listed_is : (words : List Text) (job : Job) → listed words ≡ Some job → words ≡ list_of job
listed_is [] job e = absurd cc
listed_is (w ∷ rest) job e =
    split (bytes_eq (codes "replay") w) _ _ job (valued_is replay_named (codes "replay") w rest job (λ v. replay_value v job))
    (split (bytes_eq (codes "drive") w) _ _ job (valued_is drive_named (codes "drive") w rest job (λ v. drive_value v job))
    (split (bytes_eq (codes "keys") w) _ _ job (single_is Keys (codes "keys") w rest job refl)
    (split (bytes_eq (codes "node") w) _ _ job (single_is Node (codes "node") w rest job refl)
    (split (bytes_eq (codes "cluster") w) _ _ job (single_is Cluster (codes "cluster") w rest job refl)
    (split (bytes_eq (codes "submit") w) _ _ job (single_is Submit (codes "submit") w rest job refl)
    (split (bytes_eq (codes "watch") w) _ _ job (single_is Watch (codes "watch") w rest job refl) (λ d. absurd cc))))))) e

-- the words name a job exactly where they are its list
pub words_name : (n : Text) (words : List Text) (job : Job) → ArePlain words → (job_of (n ∷ words) ≡ Some job) ↔ (words ≡ list_of job)
words_name n words job plain = (
  λ e. listed_is words job (sym (job_listed n words plain) ∙ e),
  λ e. job_listed n words plain ∙ ap listed e ∙ listed_back job,
)
