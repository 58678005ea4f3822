-- The job of words that the command takes, and of those that it refuses.
use Rattle.std.proofs.Common.{◌≡◌, ◌≢◌, List, [], ◌∷◌, Option, Some, None, option_map, refl, ap₂}
use Rattle.std.specs.Box.{box_value}
use Rattle.clap.specs.Words.{Row, Text, fault_of, found_of, rows_of, subcommand_of, subcommand_name_of, subcommand_rows_of}
use Rattle.clap.specs.declared.parser.matches.ArgMatches.{ArgMatches}
use Rattle.clap.specs.declared.parser.matches.ArgMatches.TheViews.{out-ArgMatches, out-SubCommand}
use Rattle.clap.specs.Kinds.{Kinds}
use Rattle.cluster_config.specs.declared.job.Job.{Job}
use Rattle.cluster_config.specs.Command.{ritas}
use Rattle.cluster_config.specs.Words.{job_met, job_of, unless_refused}

pub taken : (words : List Text) (met : Option (Text × List Row)) → fault_of ritas words ≡ [] → met ≡ subcommand_of ritas words → job_of words ≡ job_met met
unfolding job_of
taken words met none same = rw (none, same) refl

refused_by : (ks : Kinds) (job : Option Job) → ks ≢ [] → unless_refused ks job ≡ None
refused_by [] job some = absurd (some refl)
refused_by (k ∷ ks) job some = refl

pub refused : (words : List Text) → fault_of ritas words ≢ [] → job_of words ≡ None
unfolding job_of
refused words some = refused_by (fault_of ritas words) (job_met (subcommand_of ritas words)) some

-- what is met has its name and its rows
abbrev with_rows : {A : Type 0} → (A → Text) → (A → List Row) → A → Text × List Row
with_rows f g b = (f b, g b)

both_met : {A : Type 0} (f : A → Text) (g : A → List Row) (o : Option A) (name : Text) (rows : List Row) → Some name ≡ option_map f o
    → Some rows ≡ option_map (λ (p : Text × List Row). p.1) (option_map (with_rows f g) o) → option_map (with_rows f g) o ≡ Some (name, rows)
both_met f g None name rows first second = absurd cc
both_met f g (Some b) name rows first second =
    let one : f b ≡ name = cc in
    let other : g b ≡ rows = cc in
    ap₂ (λ (x : Text) (y : List Row). Some (x, y)) one other

pub met_is : (m : ArgMatches) (name : Text) (rows : List Row) → Some name ≡ subcommand_name_of m
    → Some rows ≡ option_map (λ (p : Text × List Row). p.1) (subcommand_rows_of m) → subcommand_rows_of m ≡ Some (name, rows)
met_is m name rows first second =
    both_met (λ b. (out-SubCommand (box_value b)).name.now) (λ b. rows_of (found_of (out-SubCommand (box_value b)).matches)) (out-ArgMatches m).subcommand name rows first second
