use Rattle.std.proofs.Common.{refl}
use Rattle.like_c.proofs.rows.rows_are_laid_out.Goals as goal

pub returns : goal.returns
returns c = record {
  options = λ o. refl;
  options_at = ((_, refl), ((_, refl), ((_, refl), ((_, refl), ((_, refl), refl)))));
  request = λ r. refl;
  request_at = ((_, refl), ((_, refl), ((_, refl), ((_, refl), refl))));
  answer = λ a. refl;
  answer_at = ((_, refl), ((_, refl), ((_, refl), refl)));
  found = λ f. refl;
  found_at = ((_, refl), ((_, refl), ((_, refl), ((_, refl), ((_, refl), ((_, refl), ((_, refl), ((_, refl), refl))))))));
  pair = λ p. refl;
  pair_at = ((_, refl), ((_, refl), refl));
}
