-- From a subcommand on, the words are its own.
use Rattle.std.proofs.Common.{◌≡◌, ◌∙◌, false, List, [], ◌∷◌, ◌++◌, Some, refl, ap, codes, append-nil, append_assoc}
use Rattle.std.specs.Prelude.{fold}
use Rattle.clap.specs.Words.{Rule, Shape, Text, built, fault_of, subcommand_of}
use Rattle.clap.specs.Simple.{rows_at, names_of, entered}
use Rattle.clap.specs.Walk.{Names, Walk, nothing_held, walk_from, walked}
use Rattle.clap.specs.Faults.{level_fault, walk_fault}
use Rattle.clap.specs.Kinds.{Kinds, or_else}
use Rattle.clap.proofs.OnLiterals.{clap_on_literals}
use Rattle.cluster_config.specs.Command.{alone, with_value, ritas}
use Rattle.cluster_config.proofs.Walks.{sub}

abbrev stopped_at : Walk → Text → List Text → Walk
stopped_at w name words = record w { stopped = Some (name, words) }

stopped_walk : (c : List Rule) (names : Names) (w : Walk) (name : Text) (before rest : List Text)
    → fold (walked c names) (stopped_at w name before) rest ≡ stopped_at w name (before ++ rest)
unfolding walked
stopped_walk c names w name before [] = rw append-nil refl
stopped_walk c names w name before (x ∷ rest) = stopped_walk c names w name (before ++ x ∷ []) rest ∙ ap (stopped_at w name) (append_assoc before (x ∷ []) rest)

stopped_fault : (s : Shape) (names : Names) (w : Walk) (name : Text) (before rest : List Text)
    → walk_fault s names (stopped_at w name before) rest ≡ []
unfolding walked walk_fault
stopped_fault s names w name before [] = refl
stopped_fault s names w name before (x ∷ rest) = stopped_fault s names w name (before ++ x ∷ []) rest

abbrev names : Names
names = names_of (built ritas)

abbrev start : Walk
start = walk_from nothing_held

no_more : (ks : Kinds) → or_else ks [] ≡ ks
no_more [] = refl
no_more (k ∷ ks) = refl

-- behind this word the words are looked at by this subcommand, which is met with them
pub record IsEntered (w : Text) (s : Shape) : Type 0 where
  pub faults : (n : Text) (rest : List Text) → fault_of ritas (n ∷ w ∷ rest) ≡ level_fault (sub s) [] nothing_held rest false []
  pub meets : (n : Text) (rest : List Text) → subcommand_of ritas (n ∷ w ∷ rest) ≡ Some (rows_at (sub s) rest)

-- the walk over the words behind a name, and that it has no fault
abbrev walks : (name : Text) (rest : List Text) → fold (walked [] names) (stopped_at start name []) rest ≡ stopped_at start name rest
walks name rest = stopped_walk [] names start name [] rest

abbrev is_right : (name : Text) (rest : List Text) → walk_fault (built ritas).top names (stopped_at start name []) rest ≡ []
is_right name rest = stopped_fault (built ritas).top names start name [] rest

pub replay_entered : IsEntered (codes "replay") (with_value (codes "replay"))
unfolding clap_on_literals
replay_entered = record {
  faults = λ n rest. rw (walks (codes "replay") rest, is_right (codes "replay") rest) (no_more _);
  meets = λ n rest. ap (λ (w : Walk). entered (built ritas) w.stopped) (walks (codes "replay") rest);
}

pub drive_entered : IsEntered (codes "drive") (with_value (codes "drive"))
unfolding clap_on_literals
drive_entered = record {
  faults = λ n rest. rw (walks (codes "drive") rest, is_right (codes "drive") rest) (no_more _);
  meets = λ n rest. ap (λ (w : Walk). entered (built ritas) w.stopped) (walks (codes "drive") rest);
}

pub keys_entered : IsEntered (codes "keys") (alone (codes "keys"))
unfolding clap_on_literals
keys_entered = record {
  faults = λ n rest. rw (walks (codes "keys") rest, is_right (codes "keys") rest) (no_more _);
  meets = λ n rest. ap (λ (w : Walk). entered (built ritas) w.stopped) (walks (codes "keys") rest);
}

pub node_entered : IsEntered (codes "node") (alone (codes "node"))
unfolding clap_on_literals
node_entered = record {
  faults = λ n rest. rw (walks (codes "node") rest, is_right (codes "node") rest) (no_more _);
  meets = λ n rest. ap (λ (w : Walk). entered (built ritas) w.stopped) (walks (codes "node") rest);
}

pub cluster_entered : IsEntered (codes "cluster") (alone (codes "cluster"))
unfolding clap_on_literals
cluster_entered = record {
  faults = λ n rest. rw (walks (codes "cluster") rest, is_right (codes "cluster") rest) (no_more _);
  meets = λ n rest. ap (λ (w : Walk). entered (built ritas) w.stopped) (walks (codes "cluster") rest);
}

pub submit_entered : IsEntered (codes "submit") (alone (codes "submit"))
unfolding clap_on_literals
submit_entered = record {
  faults = λ n rest. rw (walks (codes "submit") rest, is_right (codes "submit") rest) (no_more _);
  meets = λ n rest. ap (λ (w : Walk). entered (built ritas) w.stopped) (walks (codes "submit") rest);
}

pub watch_entered : IsEntered (codes "watch") (alone (codes "watch"))
unfolding clap_on_literals
watch_entered = record {
  faults = λ n rest. rw (walks (codes "watch") rest, is_right (codes "watch") rest) (no_more _);
  meets = λ n rest. ap (λ (w : Walk). entered (built ritas) w.stopped) (walks (codes "watch") rest);
}
