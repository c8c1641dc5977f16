use Rattle.std.proofs.Common.{◌≡◌, ◌+◌, ◌-◌, ◌*◌, ◌≤◌, length, take, string_bytes, string_len, string_capacity}
use Rattle.formats.specs.Text.{text_of, SixteenBit}
use Rattle.formats.proofs.capture.write_capture.Given as goal

abbrev pub invariant-loop-run : goal.invariant-loop-run
invariant-loop-run l =
    (string_bytes l.out ≡ text_of (take l.run-index l.runs)) × SixteenBit (take l.run-index l.runs)
    × (string_len l.out + 12 * (length l.runs - l.run-index) ≤ string_capacity l.out)
