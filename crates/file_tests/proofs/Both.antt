-- What `r && t` answers, at each branch of it.
use Rattle.std.proofs.Common.{◌≡◌, Bool, true, false, ◌&&◌, ◌∙◌, ap, sym}

pub both-passed : {r t s : Bool} → r ≡ true → (r && t) ≡ s → t ≡ s
both-passed {t = t} e h = sym (ap (λ (b : Bool). b && t) e) ∙ h

pub first-failed : {r s : Bool} (t : Bool) → r ≡ false → (r && t) ≡ s → r ≡ s
first-failed t e h = e ∙ sym (ap (λ (b : Bool). b && t) e) ∙ h
