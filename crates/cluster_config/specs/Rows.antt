-- Worked rows of words, of numbers and of the texts of plans.
use Rattle.std.specs.Prelude.{◌≡◌, ℕ, List, [], ◌∷◌, ◌++◌, codes, replicate, Some, None, Ok, Err, refl}
use Rattle.clap.proofs.OnLiterals.{clap_on_literals}
use Rattle.hex.specs.Hex.{decode_pairs}
use Rattle.ritas_base.specs.declared.mode.FrameVersion.TheVariants.{One, Two, Three}
use Rattle.ritas_base.specs.declared.mode.Vect.TheVariants.{Echo}
use Rattle.ritas_base.specs.declared.what.What.TheVariants.{Frames, Vectors}
use Rattle.ritas_base.specs.declared.what.DriveWhat.TheVariants.{Schedule}
use Rattle.ritas_base.specs.declared.plan.Order.TheVariants.{Random}
use Rattle.ritas_base.specs.declared.plan.Attack.TheVariants.{Absent}
use Rattle.cluster_config.specs.declared.job.Job.TheVariants.{Replay, Drive, Node, Watch}
use Rattle.cluster_config.specs.Words.{job_of}
use Rattle.cluster_config.specs.Values.{numeral, number_in, numbers_in}
use Rattle.cluster_config.specs.Lines.{line_at, text_end_at, line_value_at, field_at}
use Rattle.cluster_config.specs.Columns.{read_by, read_text}
use Rattle.cluster_config.specs.Front.{session_lines, numbers_lines, copies_line}
use Rattle.cluster_config.specs.Drive.{Planned, drive_column}

-- ---- words, the program's own name first

-- replaying
replays : job_of (codes "ritas" ∷ codes "replay" ∷ codes "frames" ∷ []) ≡ Some (Replay Frames)
unfolding job_of clap_on_literals
replays = refl

-- and for the vectors
shows_vectors : job_of (codes "ritas" ∷ codes "replay" ∷ codes "vectors" ∷ []) ≡ Some (Replay Vectors)
unfolding job_of clap_on_literals
shows_vectors = refl

-- driving, under another name
drives : job_of (codes "" ∷ codes "drive" ∷ codes "schedule" ∷ []) ≡ Some (Drive Schedule)
unfolding job_of clap_on_literals
drives = refl

-- values that the other subcommand has
other_value : job_of (codes "ritas" ∷ codes "drive" ∷ codes "frames" ∷ []) ≡ None
unfolding job_of clap_on_literals
other_value = refl

no_vectors : job_of (codes "ritas" ∷ codes "drive" ∷ codes "vectors" ∷ []) ≡ None
unfolding job_of clap_on_literals
no_vectors = refl

-- a job without a value
runs : job_of (codes "ritas" ∷ codes "node" ∷ []) ≡ Some Node
unfolding job_of clap_on_literals
runs = refl

watches : job_of (codes "ritas" ∷ codes "watch" ∷ []) ≡ Some Watch
unfolding job_of clap_on_literals
watches = refl

-- and with one
with_value : job_of (codes "ritas" ∷ codes "node" ∷ codes "report" ∷ []) ≡ None
unfolding job_of clap_on_literals
with_value = refl

-- a word too many
third : job_of (codes "ritas" ∷ codes "replay" ∷ codes "report" ∷ codes "x" ∷ []) ≡ None
unfolding job_of clap_on_literals
third = refl

-- no value
no_word : job_of (codes "ritas" ∷ codes "replay" ∷ []) ≡ None
unfolding job_of clap_on_literals
no_word = refl

-- the name alone
name_alone : job_of (codes "ritas" ∷ []) ≡ None
unfolding job_of clap_on_literals
name_alone = refl

-- no word at all
empty : job_of [] ≡ None
unfolding job_of clap_on_literals
empty = refl

-- there is no help
help : job_of (codes "ritas" ∷ codes "help" ∷ []) ≡ None
unfolding job_of clap_on_literals
help = refl

-- nor a flag for it
help_flag : job_of (codes "ritas" ∷ codes "--help" ∷ []) ≡ None
unfolding job_of clap_on_literals
help_flag = refl

-- behind two hyphens a word is a value
separated : job_of (codes "ritas" ∷ codes "replay" ∷ codes "--" ∷ codes "frames" ∷ []) ≡ Some (Replay Frames)
unfolding job_of clap_on_literals
separated = refl

-- ---- numbers

no_digit : numeral [] ≡ None
no_digit = refl

zero_alone : numeral (codes "0") ≡ Some 0
zero_alone = refl

leading_zero : numeral (codes "01") ≡ None
leading_zero = refl

signed : numeral (codes "+1") ≡ None
signed = refl

greatest : numeral (codes "18446744073709551615") ≡ Some 18446744073709551615
greatest = refl

too_great : numeral (codes "18446744073709551616") ≡ None
too_great = refl

out_of_range : number_in 1 31 (codes "32") ≡ None
out_of_range = refl

-- of four replicas one may be faulty, and not two
one_of_four : numbers_in 4 (codes "1") ≡ Some (record { n = 4; f = 1 })
one_of_four = refl

two_of_four : numbers_in 4 (codes "2") ≡ None
two_of_four = refl

-- ---- texts

-- the session's line
abbrev session : List ℕ
session = codes "session 7\n"

-- the lines up to n
abbrev front : List ℕ
front = codes "ritas 1\n" ++ session

-- four replicas and root service 6, a master key of 64 zeros, and the lines from the order on
abbrev numbers : List ℕ
numbers = codes "n 4\nf 1\nroot 6\nvect echo\nmaster "

abbrev back : List ℕ
back = codes "\norder random\nattack none\nstart 0\ncommands 1\n"

-- what follows the first line
abbrev lines : List ℕ
lines = session ++ (numbers ++ (replicate 64 48 ++ back))

abbrev whole : List ℕ
whole = codes "ritas 1\n" ++ lines

abbrev plan : Planned
plan = record {
  session = 7;
  p = record { n = 4; f = 1 };
  root = 6;
  vect = Echo;
  version = One;
  master = replicate 32 0;
  order = Random;
  attack = Absent;
  start = 0;
  commands = 1;
  copies = 1;
}

-- a plan
is_read : read_text drive_column whole ≡ Ok plan
unfolding read_text read_by drive_column session_lines numbers_lines copies_line field_at line_value_at line_at text_end_at decode_pairs
is_read = refl

-- the first line is the version of frames
of_version_two : read_text drive_column (codes "ritas 2\n" ++ lines) ≡ Ok (record plan { version = Two })
unfolding read_text read_by drive_column session_lines numbers_lines copies_line field_at line_value_at line_at text_end_at decode_pairs
of_version_two = refl

of_version_three : read_text drive_column (codes "ritas 3\n" ++ lines) ≡ Ok (record plan { version = Three })
unfolding read_text read_by drive_column session_lines numbers_lines copies_line field_at line_value_at line_at text_end_at decode_pairs
of_version_three = refl

of_version_four : read_text drive_column (codes "ritas 4\n" ++ lines) ≡ Err 1
unfolding read_text read_by drive_column session_lines numbers_lines copies_line field_at line_value_at line_at text_end_at decode_pairs
of_version_four = refl

-- what is said of copies: from one to all four
one_copy : read_text drive_column (whole ++ codes "copies 1\n") ≡ Ok plan
unfolding read_text read_by drive_column session_lines numbers_lines copies_line field_at line_value_at line_at text_end_at decode_pairs
one_copy = refl

all_copies : read_text drive_column (whole ++ codes "copies 4\n") ≡ Ok (record plan { copies = 4 })
unfolding read_text read_by drive_column session_lines numbers_lines copies_line field_at line_value_at line_at text_end_at decode_pairs
all_copies = refl

no_copy : read_text drive_column (whole ++ codes "copies 0\n") ≡ Err 12
unfolding read_text read_by drive_column session_lines numbers_lines copies_line field_at line_value_at line_at text_end_at decode_pairs
no_copy = refl

too_many_copies : read_text drive_column (whole ++ codes "copies 5\n") ≡ Err 12
unfolding read_text read_by drive_column session_lines numbers_lines copies_line field_at line_value_at line_at text_end_at decode_pairs
too_many_copies = refl

-- and a line behind that
behind_copies : read_text drive_column (whole ++ codes "copies 2\ncopies 2\n") ≡ Err 13
unfolding read_text read_by drive_column session_lines numbers_lines copies_line field_at line_value_at line_at text_end_at decode_pairs
behind_copies = refl

-- a line more
more : read_text drive_column (whole ++ 10 ∷ []) ≡ Err 12
unfolding read_text read_by drive_column session_lines numbers_lines copies_line field_at line_value_at line_at text_end_at decode_pairs
more = refl

-- no line at all
none : read_text drive_column [] ≡ Err 1
unfolding read_text read_by drive_column session_lines numbers_lines copies_line field_at line_value_at line_at text_end_at
none = refl

-- the third line is missing
missing : read_text drive_column front ≡ Err 3
unfolding read_text read_by drive_column session_lines numbers_lines copies_line field_at line_value_at line_at text_end_at
missing = refl

-- its name stands there alone
no_value : read_text drive_column (front ++ codes "n\n") ≡ Err 3
unfolding read_text read_by drive_column session_lines numbers_lines copies_line field_at line_value_at line_at text_end_at
no_value = refl

-- two spaces
two_spaces : read_text drive_column (front ++ codes "n  4\n") ≡ Err 3
unfolding read_text read_by drive_column session_lines numbers_lines copies_line field_at line_value_at line_at text_end_at
two_spaces = refl

-- a line without an end
no_end : read_text drive_column (front ++ codes "n 4") ≡ Err 3
unfolding read_text read_by drive_column session_lines numbers_lines copies_line field_at line_value_at line_at text_end_at
no_end = refl

-- a line in the place of another
other_line : read_text drive_column (front ++ codes "f 1\n") ≡ Err 3
unfolding read_text read_by drive_column session_lines numbers_lines copies_line field_at line_value_at line_at text_end_at
other_line = refl

-- too many faulty replicas
too_many : read_text drive_column (front ++ codes "n 4\nf 2\n") ≡ Err 4
unfolding read_text read_by drive_column session_lines numbers_lines copies_line field_at line_value_at line_at text_end_at
too_many = refl
