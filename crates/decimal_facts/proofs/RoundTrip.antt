-- Document 01, "Decimal numbers": what is sent reads back.
use mathlib.Core.Path.{refl}
use mathlib.Core.Logic.{inl, inr}
use native.Mathlib.Omega.{arith}
use Rattle.buffer.specs.First.{pick}
use Rattle.buffer.specs.Byte.{within, numeral_from, leading, starts_with}
use Rattle.decimal.specs.Exact.{size_of, normal_of}
use Rattle.decimal.specs.Form.{exponent_of, fraction_of, unsigned_of, scan_of, parsed_of, number_of}
use Rattle.decimal_text.specs.Written.{sign_text, trimmed, pointed, exponent_text, written_of}
use Rattle.decimal_text.proofs.Laws.{written_le}
use Rattle.decimal_facts.proofs.Accepts.{form_reads, value_exactly}
use Rattle.decimal_facts.proofs.Lemmas.Texts.{written, written_text, written_good, written_exactly, zero_reads, decimals, decimals_text, decimals_good, decimals_mean, decimals_count}
use Rattle.decimal_facts.proofs.Value.{answers}
use Rattle.decimal_facts.specs.Theorems.{WrittenReads, WrittenLength, HundredthsRead, Examples}

-- what is written reads back as the same number
pub written_reads : WrittenReads
written_reads n (inl e) = rw e zero_reads
written_reads n (inr f) = rw (← (written_text n (omega (arith, f.low)))) ((value_exactly (written n) n (written_good n)).1 (written_exactly n f))

-- the written form has at most ten characters, and one more if the number is negative
pub written_length : WrittenLength
written_length n = omega (arith, written_le n)

-- "with two decimals": what is sent reads back as that many hundredths, and as negative where it is so and not zero
pub hundredths_read : HundredthsRead
hundredths_read negative h k =
    rw (← (decimals_text negative h), form_reads (decimals negative h) (decimals_good negative h k), decimals_mean negative h k)
    (decimals_count negative h _ k (answers _))

-- "973.4 is `9.734e2`, 1 is `1e0`"
pub examples : Examples
unfolding number_of parsed_of scan_of unsigned_of fraction_of exponent_of leading starts_with normal_of size_of pick within numeral_from written_of sign_text pointed trimmed exponent_text
examples = (refl, refl)
