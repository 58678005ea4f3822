-- Which job the words of a command line name.
use Rattle.std.specs.Prelude.{◌==◌, Bool, false, List, [], ◌∷◌, Option, Some, None, codes, if◌then◌else◌}
use Rattle.std.specs.Str.{bytes_eq}
use Rattle.clap.specs.Kinds.{Kinds}
use Rattle.clap.specs.Words.{Row, Text, fault_of, first_of, subcommand_of}
use Rattle.ritas_base.specs.declared.what.What.TheVariants as what
use Rattle.ritas_base.specs.declared.what.DriveWhat.TheVariants as drive_what
use Rattle.cluster_config.specs.declared.job.Job.{Job}
use Rattle.cluster_config.specs.declared.job.Job.TheVariants.{Replay, Drive, Keys, Node, Cluster, Submit, Watch}
use Rattle.cluster_config.specs.Command.{ritas}

-- the words after the program's name that ask for a job
abbrev pub list_of : Job → List Text
list_of (Replay what.Report) = codes "replay" ∷ codes "report" ∷ []
list_of (Replay what.Frames) = codes "replay" ∷ codes "frames" ∷ []
list_of (Replay what.Vectors) = codes "replay" ∷ codes "vectors" ∷ []
list_of (Drive drive_what.Report) = codes "drive" ∷ codes "report" ∷ []
list_of (Drive drive_what.Schedule) = codes "drive" ∷ codes "schedule" ∷ []
list_of Keys = codes "keys" ∷ []
list_of Node = codes "node" ∷ []
list_of Cluster = codes "cluster" ∷ []
list_of Submit = codes "submit" ∷ []
list_of Watch = codes "watch" ∷ []

-- the word begins with a hyphen
abbrev pub is_hyphened : Text → Bool
is_hyphened [] = false
is_hyphened (x ∷ xs) = x == 45

-- what the value of `replay` names, and that of `drive`
abbrev pub replay_named : Option Text → Option Job
replay_named None = None
replay_named (Some value) = if bytes_eq value (codes "report") then Some (Replay what.Report)
    else (if bytes_eq value (codes "frames") then Some (Replay what.Frames)
    else (if bytes_eq value (codes "vectors") then Some (Replay what.Vectors) else None))

abbrev pub drive_named : Option Text → Option Job
drive_named None = None
drive_named (Some value) = if bytes_eq value (codes "report") then Some (Drive drive_what.Report)
    else (if bytes_eq value (codes "schedule") then Some (Drive drive_what.Schedule) else None)

-- the job of a subcommand that takes no value
abbrev pub alone_named : Text → Option Job
alone_named name = if bytes_eq name (codes "keys") then Some Keys
    else (if bytes_eq name (codes "node") then Some Node
    else (if bytes_eq name (codes "cluster") then Some Cluster
    else (if bytes_eq name (codes "submit") then Some Submit
    else (if bytes_eq name (codes "watch") then Some Watch else None))))

-- the job of a subcommand and its value
abbrev pub job_named : Text → Option Text → Option Job
job_named name value = if bytes_eq name (codes "replay") then replay_named value
    else (if bytes_eq name (codes "drive") then drive_named value else alone_named name)

-- the job of the subcommand that was met, with the values that it was given
abbrev pub job_met : Option (Text × List Row) → Option Job
job_met None = None
job_met (Some met) = job_named met.0 (first_of (codes "what") met.1)

abbrev pub unless_refused : Kinds → Option Job → Option Job
unless_refused [] job = job
unless_refused (k ∷ ks) job = None

-- the job that the words name, where the command takes them
unfoldable pub job_of : List Text → Option Job
job_of words = unless_refused (fault_of ritas words) (job_met (subcommand_of ritas words))
