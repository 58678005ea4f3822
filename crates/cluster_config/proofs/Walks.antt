-- What clap makes of words that begin with no hyphen.
use Rattle.std.proofs.Common.{◌≡◌, false, List, [], ◌∷◌, Some, None, refl, codes}
use Rattle.std.specs.Str.{bytes_eq}
use Rattle.clap.specs.Lexer.{strip_byte}
use Rattle.clap.specs.Words.{Shape, Text, first_of}
use Rattle.clap.specs.Simple.{built_leaf, inherited, marked_built, with_leaf_noted, rows_at}
use Rattle.clap.specs.Walk.{nothing_held}
use Rattle.clap.specs.Faults.{level_fault}
use Rattle.clap.specs.declared.error.kind.ErrorKind.TheVariants as kind
use Rattle.clap.proofs.OnLiterals.{clap_on_literals}
use Rattle.cluster_config.specs.Words.{is_hyphened}
use Rattle.cluster_config.specs.Command.{alone, with_value, ritas}

pub no_hyphen : (w : Text) → is_hyphened w ≡ false → strip_byte 45 w ≡ None
no_hyphen [] h = refl
no_hyphen (x ∷ xs) h = rw h refl

pub no_dashes : (w : Text) → is_hyphened w ≡ false → bytes_eq w (45 ∷ 45 ∷ []) ≡ false
no_dashes [] h = refl
no_dashes (x ∷ xs) h = rw h refl

-- a subcommand as the command that has it builds it
abbrev pub sub : Shape → Shape
sub s = built_leaf (inherited (with_leaf_noted (marked_built ritas.top)) s)

pub no_value : (name : Text) → level_fault (sub (with_value name)) [] nothing_held [] false [] ≡ kind.MissingRequiredArgument ∷ []
unfolding clap_on_literals
no_value name = refl

pub one_value : (name w : Text) → is_hyphened w ≡ false → level_fault (sub (with_value name)) [] nothing_held (w ∷ []) false [] ≡ []
unfolding clap_on_literals
one_value name w plain =
    let stripped = no_hyphen w plain in
    let dashes = no_dashes w plain in
    rw (dashes, stripped, stripped) (refl {a = []})

pub value_is : (name w : Text) → is_hyphened w ≡ false → first_of (codes "what") (rows_at (sub (with_value name)) (w ∷ [])).1 ≡ Some w
unfolding clap_on_literals
value_is name w plain =
    let stripped = no_hyphen w plain in
    let dashes = no_dashes w plain in
    rw (dashes, stripped, stripped) (refl {a = Some w})

pub two_values : (name w v : Text) (rest : List Text) → is_hyphened w ≡ false → is_hyphened v ≡ false
    → level_fault (sub (with_value name)) [] nothing_held (w ∷ v ∷ rest) false [] ≡ kind.UnknownArgument ∷ []
unfolding clap_on_literals
two_values name w v rest plain plain2 =
    let stripped = no_hyphen w plain in
    let dashes = no_dashes w plain in
    let stripped2 = no_hyphen v plain2 in
    let dashes2 = no_dashes v plain2 in
    simp (dashes, stripped, dashes2, stripped2)

pub nothing : (name : Text) → level_fault (sub (alone name)) [] nothing_held [] false [] ≡ []
unfolding clap_on_literals
nothing name = refl

pub something : (name w : Text) (rest : List Text) → is_hyphened w ≡ false → level_fault (sub (alone name)) [] nothing_held (w ∷ rest) false [] ≡ kind.UnknownArgument ∷ []
unfolding clap_on_literals
something name w rest plain =
    let stripped = no_hyphen w plain in
    let dashes = no_dashes w plain in
    simp (dashes, stripped)
