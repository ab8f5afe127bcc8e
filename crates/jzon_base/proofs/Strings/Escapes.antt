-- What is printed as an escape is read back.
use Rattle.jzon_base.proofs.Common.{◌≡◌, ◌<◌, ℕ, IsTrue, arith, nat_tests}
use Rattle.jzon_base.specs.Escapes.{is_simple, unescaped, letter_of}

-- the letter of a byte's simple escape means that byte
pub letter_means : (c : ℕ) → 0 < letter_of c → IsTrue (is_simple (letter_of c)) × (unescaped (letter_of c) ≡ c)
letter_means c h = (grind (arith, nat_tests), grind (arith, nat_tests))
