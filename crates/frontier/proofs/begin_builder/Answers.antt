-- `frontier::begin_builder` meets its contract.
use mathlib.Core.Path.{refl}
use mathlib.Core.List.{[]}
use native.Mathlib.Omega.{arith}
use lib.Dec.{lit<}
use Rattle.avl.specs.Tree.Tree.{leaf}
use Rattle.frontier.specs.Candidates.{survivors}
use Rattle.frontier.proofs.begin_builder.Goals as goal

pub returns : goal.returns
unfolding survivors
returns c = record {
  frontier = λ m size h k. record {
    sound = record {
      kept = record {
        t = leaf;
        order = [];
        frees = [];
        holds = refl;
        ord = tt;
        avl = tt;
        seg = (refl, refl);
        spare = refl;
        once_t = tt;
        once = tt;
        once_free = tt;
        apart = tt;
        agree = record { to = λ s i. i; back = λ s i. i };
        count = refl;
        sum = refl;
        low = λ x i. absurd i;
        low_free = λ x i. absurd i;
        fit = omega arith;
        small = lit< tt;
      };
      falls = λ x y i. absurd i;
    };
    within = omega arith;
    room = h;
    bound = k;
  };
  empty = λ m. refl;
}
