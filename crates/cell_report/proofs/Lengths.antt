-- How long the texts are at most.
use Rattle.std.proofs.Common.{ℕ, ◌<◌, ◌≤◌, length, arith, length-append}
use Rattle.std.specs.Fmt.{decimal}
use Rattle.std.proofs.lemmas.Fmt.{length-decimal-le}
use Rattle.state_lines.proofs.Lengths.{decimal-short}
use Rattle.cell_report.specs.States.{host_line}

-- of a number below 10,000
pub decimal-four : (n : ℕ) → n < 10000 → length (decimal n) ≤ 4
decimal-four n low = length-decimal-le 4 n (omega arith) (omega (arith, low)) (omega (arith, low))

pub host-short : (done all : ℕ) → done < 4294967296 → all < 4294967296 → length (host_line done all) ≤ 30
host-short done all low few =
    let one = decimal-short done low in
    let two = decimal-short all few in
    simp length-append (omega (arith, one, two))
