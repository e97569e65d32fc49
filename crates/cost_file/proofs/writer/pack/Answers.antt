use Rattle.std.proofs.Common.{sym, ◌∙◌}
use Rattle.cost_file.specs.Records.{kind_of}
use Rattle.cost_file.proofs.Laying.{packs, four_bytes}
use Rattle.cost_file.proofs.writer.pack.Goals as goal

pub returns : goal.returns
returns c =
    record {
      value = packs c.args.part.now c.args.body.now c.copy_from_slice.new.self c.copy_from_slice-2.new.self c.copy_from_slice-3.new.self (kind_of c.args.kind) c.args.number c.check.result
          c.requires (c.copy_from_slice.ensures.after ∙ c.head.ensures.value) c.copy_from_slice-2.ensures.after
          (c.copy_from_slice-3.ensures.after ∙ c.to_be_bytes-sum.ensures ∙ sym (four_bytes c.check.result)) c.check.ensures.value;
    }
