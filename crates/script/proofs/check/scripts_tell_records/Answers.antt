use Rattle.std.proofs.Common.{refl}
use Rattle.std.specs.Fmt.{digits}
use Rattle.script.proofs.Spells.{reads_back}
use Rattle.script.proofs.check.scripts_tell_records.Goals as goal

pub returns : goal.returns
unfolding digits
returns c =
    record {
      back = reads_back;
      faults =
          record {
            nothing = refl;
            unknown_first = refl;
            one_byte = refl;
            no_size = refl;
            half_a_size = refl;
            second_opening = refl;
            unknown_later = refl;
            one_byte_later = refl;
            no_count = refl;
            earlier_decides = refl;
          };
      lines = record { records = refl; text = refl };
    }
