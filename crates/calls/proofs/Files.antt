-- The claims about calls, of accepted files.
use Rattle.std.specs.Prelude.{ℕ, List}
use Rattle.answers.specs.declared.Ran.{Ran}
use Rattle.calls.specs.Calls.{file, problem_from, RunFrom}
use Rattle.calls.specs.Files.{RunOf, CallsHold, WithEnough, ListingsHold}
use Rattle.calls.proofs.Demand.{calls-hold-from, with-enough-from}
use Rattle.calls.proofs.Listing.{listings-hold-from}

run-of : (f : List ℕ) (q : Ran) → RunOf f q → RunFrom (file f) q
run-of f q r = record { fine = r.fine; opened = r.opened; opens = r.opens; runs = r.runs }

pub calls-hold : CallsHold
unfolding problem_from
calls-hold =
    record {
      opening = λ f a o p. calls-hold-from.opening (file f) a o p;
      smaller = λ f g q u r s e b. calls-hold-from.smaller (file f) (file g) q u (run-of f q r) (run-of g u s) e b;
      same = λ f g q u r s e. calls-hold-from.same (file f) (file g) q u (run-of f q r) (run-of g u s) e;
    }

pub with-enough : WithEnough
unfolding problem_from
with-enough =
    record {
      smaller = λ f g q u r s e b. with-enough-from.smaller (file f) (file g) q u (run-of f q r) (run-of g u s) e b;
      same = λ f g q u r s e b c. with-enough-from.same (file f) (file g) q u (run-of f q r) (run-of g u s) e b c;
    }

pub listings-hold : ListingsHold
unfolding problem_from
listings-hold = record { opening = λ f a o p. listings-hold-from.opening (file f) a o p }
