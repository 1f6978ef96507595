-- What is said of the number of an answer.
use Rattle.std.specs.Prelude.{◌≡◌, Bool, ℕ, eqb}

-- n is the number of the answer x, and it is `done` exactly if x is no refusal
pub record Told {A : Type 0} (number : A → ℕ) (is_read : A → Bool) (done : ℕ) (x : A) (n : ℕ) : Type 0 where
  pub number_is : number x ≡ n
  pub exactly : is_read x ≡ eqb n done
