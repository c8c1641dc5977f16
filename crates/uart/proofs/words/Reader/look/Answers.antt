use Rattle.std.proofs.Common.{◌≡◌, ◌-◌, ◌*◌, ◌%◌, ◌^◌, ◌≤◌, ◌∙◌, arith, rules}
use Rattle.std.proofs.lemmas.Bool.{le-leb, ne_eqb}
use Rattle.std.proofs.lemmas.Nat.{shl_whole}
use Rattle.uart.specs.Decoder.{digit}
use Rattle.uart.specs.Sound.{digit_small}
use Rattle.uart.proofs.Digits.{byte_is_digit}
use Rattle.uart.proofs.words.Reader.look.Goals as goal

-- the bit is shifted to its place with nothing cut off
pub returns-in-1-to-8 : goal.returns-in-1-to-8
returns-in-1-to-8 c =
    let r = c.args.self.state in
    let x = c.args.level in
    let low : 1 ≤ r.next = search rules in
    let high : r.next ≤ 8 = search rules in
    let whole : (c.from.result * 2 ^ (r.next - 1)) % 256 ≡ digit x * 2 ^ (r.next - 1) =
    rw (c.from.ensures, byte_is_digit x) (shl_whole (digit x) 1 (r.next - 1) 8 (omega (arith, digit_small x)) (omega arith)) in
    record {
      next = c.wait_for_look-in-1-to-8.ensures ∙ rw (whole, ne_eqb r.next 0 (λ e. omega (arith, e)), le-leb r.next 8 high);
      read = rw (le-leb r.next 8 high);
    }
