-- What becomes of a text below its header. Assumes nothing.
use Rattle.std.proofs.Common.{◌≡◌, ℕ, ◌+◌, ◌≤◌, min, List, [], ◌++◌, length, None, Ok, sym, ap, ◌∙◌, arith}
use Rattle.decoder.specs.Machine.{outputs_at, placed_within}
use Rattle.decoder.proofs.Places.{piece_within}
use Rattle.uart.specs.declared.words.State.{State}
use Rattle.uart.specs.Decoder.{step, emit, fresh, setting_at_fault}
use Rattle.uart.specs.Word.{word_text}
use Rattle.uart.specs.declared.words.Word.{Word}
use Rattle.uart.specs.Stream.{Carries}
use Rattle.uart.proofs.Streams.{in_range, carried}
use Rattle.uart.proofs.Waves.{waves_are_read}
use Rattle.formats.specs.Capture.{samples_in}
use Rattle.readout.specs.declared.header.Settings.{Settings}
use Rattle.readout.specs.declared.header.Settings.TheVariants.{Serial}
use Rattle.readout.specs.Decode.{DecodesSerial, DecodesBy, ListingIsOne}
use Rattle.readout.specs.Header.{Header}
use Rattle.readout.specs.Listing.{listing}
use Rattle.readout.proofs.Headers.{same_header}

-- the words of a stream that are complete by the end of its beginning
begun_is :
    (d k : ℕ) (samples rest : List ℕ) (words : List (ℕ × Word)) → 2 ≤ d → Carries d k (samples ++ rest) words →
    outputs_at step emit 0 (fresh d k) samples ≡ placed_within 0 (length samples) words
begun_is d k samples rest words two c =
    let z : 0 + length samples ≡ length samples = omega arith in
    sym (piece_within step emit (fresh d k) [] samples rest) ∙ ap (λ n. placed_within 0 n (outputs_at step emit 0 (fresh d k) (samples ++ rest))) z
    ∙ ap (placed_within 0 (length samples)) (carried d k (samples ++ rest) words two c)

pub decodes :
    (k d : ℕ) (after : List ℕ) (r : State) (samples out : List ℕ) → setting_at_fault d k ≡ None → r ≡ fresh d k → samples_in 1 after ≡ Ok samples →
    out ≡ listing word_text (outputs_at step emit 0 r samples) → DecodesSerial k d after out
decodes k d after r samples out fine e given wrote =
    let listed = wrote ∙ ap (λ q. listing word_text (outputs_at step emit 0 q samples)) e in
    record {
      samples = samples;
      range = in_range d k fine;
      given = given;
      listed = listed;
      fair = λ lead bs fair wave. listed ∙ ap (listing word_text) (waves_are_read d k lead bs samples (in_range d k fine).0 fair wave).1;
      begun = λ rest words c. listed ∙ ap (listing word_text) (begun_is d k samples rest words (in_range d k fine).0 c);
    }

-- ONE LISTING

same_listing :
    (k l d e : ℕ) (after rest out other : List ℕ) → min k 1000001 ≡ min l 1000001 → min d 1000001 ≡ min e 1000001 → after ≡ rest → DecodesSerial k d after out →
    DecodesSerial l e rest other → out ≡ other
same_listing k l d e after rest out other lines bits afters p q =
    let line : k ≡ l = omega (arith, p.range.2, q.range.2) in
    let bit : d ≡ e = omega (arith, p.range.1, q.range.1) in
    cc

one_by : (s t : Settings) (text after rest out other : List ℕ) → Header text s after → Header text t rest → DecodesBy s after out → DecodesBy t rest other → out ≡ other
one_by (Serial k d) (Serial l e) text after rest out other h g p q =
    let same = same_header text k d after l e rest h g in
    same_listing k l d e after rest out other same.0 same.1 same.2 p q

pub one_listing : ListingIsOne
one_listing text out other p q = one_by p.settings q.settings text p.after q.after out other p.header q.header p.decoded q.decoded
