-- What an answer of the store is as an answer of the stage.
use Rattle.std.specs.Prelude.{[], Option, None, Some, Result, Ok, Err}
use Rattle.fx_store_model.specs.declared.changes.Notices.{Notices}
use Rattle.fx_store_model.specs.declared.errors.StoreError.{StoreError}
use Rattle.fx_stage_types.specs.declared.answers.Outcome.{Outcome}
use Rattle.fx_stage_types.specs.declared.answers.StageError.{StageError}
use Rattle.fx_stage_types.specs.declared.answers.StageError.TheVariants.{Memory}
use Rattle.fx_base.specs.declared.keys.NodeKey.{NodeKey}
use Rattle.fx_base.specs.declared.values.Value.{Value}
use Rattle.fx_stage_types.specs.Words.{of_store}
use Rattle.fx_stage_model.specs.Answers.{quiet}

abbrev pub told_as : Result Notices StoreError → Result Outcome StageError
told_as (Ok notices) = Ok (record { value = None; notices = notices; warnings = []; events = [] })
told_as (Err error) = Err (of_store error)

abbrev pub told_value_as : Result Value StoreError → Result Outcome StageError
told_value_as (Ok value) = Ok (record { value = Some value; notices = quiet; warnings = []; events = [] })
told_value_as (Err error) = Err (of_store error)

-- of a change of the scene graph nothing is told
abbrev pub silence : Outcome
silence = record { value = None; notices = quiet; warnings = []; events = [] }

abbrev pub silent_as : Result (Unit {0}) StageError → Result Outcome StageError
silent_as (Ok done) = Ok silence
silent_as (Err error) = Err error

-- where only memory can be wanting
abbrev pub plain_as : {E : Type 0} → Result (Unit {0}) E → Result Outcome StageError
plain_as (Ok done) = Ok silence
plain_as (Err error) = Err Memory

-- of a step that makes no node, no node is answered
abbrev pub no_node_as : Result Outcome StageError → Result (Option NodeKey) StageError
no_node_as (Ok outcome) = Ok None
no_node_as (Err error) = Err error

-- of a node that is made, nothing is told, or its key alone is answered
abbrev pub made_as : Result NodeKey StageError → Result Outcome StageError
made_as (Ok key) = Ok silence
made_as (Err error) = Err error

abbrev pub key_as : Result NodeKey StageError → Result (Option NodeKey) StageError
key_as (Ok key) = Ok (Some key)
key_as (Err error) = Err error
