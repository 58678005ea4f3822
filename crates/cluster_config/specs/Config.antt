-- What is answered of the configuration text of a job.
use Rattle.std.specs.Prelude.{◌≡◌, ℕ, List, Result, Ok, Err}
use Rattle.cluster_config.specs.declared.config.Config.{Config}
use Rattle.cluster_config.specs.declared.config.Config.TheVariants.{Drive, Keys, Node, Cluster, Submit, Watch}
use Rattle.cluster_config.specs.declared.config.ConfigFault.{ConfigFault}
use Rattle.cluster_config.specs.declared.config.ConfigFault.TheVariants.{Line, Mem}
use Rattle.cluster_config.specs.Columns.{Column, read_text}
use Rattle.cluster_config.specs.Drive.{drive_column, planned}
use Rattle.cluster_config.specs.Keys.{keys_column}
use Rattle.cluster_config.specs.Node.{node_column, node_text}
use Rattle.cluster_config.specs.Cluster.{cluster_column, cluster_text}
use Rattle.cluster_config.specs.Submit.{submit_column}
use Rattle.cluster_config.specs.Watch.{watch_column}

-- what a text of a column's lines says, or its first wrong line; it takes no memory
abbrev pub SaysConfig : {X C : Type 0} → Column X → (C → X) → List ℕ → Result C ConfigFault → Type 0
SaysConfig column says text (Ok config) = read_text column text ≡ Ok (says config)
SaysConfig column says text (Err (Line line)) = read_text column text ≡ Err line
SaysConfig column says text (Err Mem) = ⊥

-- the same, or memory was wanting, and then the text is right
abbrev pub ReadsConfig : {X C : Type 0} → Column X → (C → X) → List ℕ → Result C ConfigFault → Type 0
ReadsConfig column says text (Ok config) = read_text column text ≡ Ok (says config)
ReadsConfig column says text (Err (Line line)) = read_text column text ≡ Err line
ReadsConfig {X} column says text (Err Mem) = (x : X) × (read_text column text ≡ Ok x)

abbrev pub AnswersDrive : List ℕ → Result Config ConfigFault → Type 0
AnswersDrive text (Ok (Drive plan)) = SaysConfig drive_column planned text (Ok plan)
AnswersDrive text (Err fault) = SaysConfig drive_column planned text (Err fault)
AnswersDrive text other = ⊥

abbrev pub AnswersKeys : List ℕ → Result Config ConfigFault → Type 0
AnswersKeys text (Ok (Keys config)) = SaysConfig keys_column (λ keys. keys) text (Ok config)
AnswersKeys text (Err fault) = SaysConfig keys_column (λ keys. keys) text (Err fault)
AnswersKeys text other = ⊥

abbrev pub AnswersNode : List ℕ → Result Config ConfigFault → Type 0
AnswersNode text (Ok (Node config)) = ReadsConfig node_column node_text text (Ok config)
AnswersNode text (Err fault) = ReadsConfig node_column node_text text (Err fault)
AnswersNode text other = ⊥

abbrev pub AnswersCluster : List ℕ → Result Config ConfigFault → Type 0
AnswersCluster text (Ok (Cluster config)) = ReadsConfig cluster_column cluster_text text (Ok config)
AnswersCluster text (Err fault) = ReadsConfig cluster_column cluster_text text (Err fault)
AnswersCluster text other = ⊥

abbrev pub AnswersSubmit : List ℕ → Result Config ConfigFault → Type 0
AnswersSubmit text (Ok (Submit config)) = ReadsConfig submit_column (λ submit. submit) text (Ok config)
AnswersSubmit text (Err fault) = ReadsConfig submit_column (λ submit. submit) text (Err fault)
AnswersSubmit text other = ⊥

abbrev pub AnswersWatch : List ℕ → Result Config ConfigFault → Type 0
AnswersWatch text (Ok (Watch config)) = ReadsConfig watch_column (λ watch. watch) text (Ok config)
AnswersWatch text (Err fault) = ReadsConfig watch_column (λ watch. watch) text (Err fault)
AnswersWatch text other = ⊥
