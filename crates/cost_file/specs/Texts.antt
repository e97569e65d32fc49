-- What is written of a layer and of a fault.
use Rattle.std.specs.Prelude.{ℕ, List, ◌++◌, codes, decimal}
use Rattle.plans.specs.Texts.{refusal_text}
use Rattle.cost_file.specs.declared.faults.Layer.{Layer}
use Rattle.cost_file.specs.declared.faults.Fault.{Fault}
use Rattle.cost_file.specs.Records.{layer_of}

-- a layer: its number
abbrev pub layer_text : Layer → List ℕ
layer_text layer = decimal (layer_of layer)

-- a fault: its refusal, the record and the layer, with a blank between them
abbrev pub fault_text : Fault → List ℕ
fault_text f = refusal_text f.refusal ++ codes " " ++ decimal f.«record» ++ codes " " ++ layer_text f.layer
