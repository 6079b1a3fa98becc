use Rattle.std.proofs.Common.{sym, subst, length, below_more}
use Rattle.memo.specs.Hash.{hash_of}
use Rattle.memo.specs.Index.{place, Passed}
use Rattle.memo.proofs.Search.{masked_place, masked_low, passed_by}
use Rattle.memo.proofs.find.Goals as goal

pub returns-in_default : goal.returns-in_default
returns-in_default c = record {
  t = c.loop-t.t;
  turns = c.loop-t-test.true;
  slot = masked_low _ _ c.requires.1;
  ends = sym (masked_place c.memo_hash.result (hash_of c.args.key) _ _ c.requires.1 c.memo_hash.ensures);
  dead = c.in_default.ensures;
  passed = c.loop-t.invariant;
}

pub loop-t-preserved : goal.loop-t-preserved
loop-t-preserved c =
    below_more (λ j. Passed c.args.index.now c.args.entries.now c.args.count c.args.key (place (hash_of c.args.key) j (length c.args.index.now))) c.loop-t.t c.loop-t.invariant
    (subst (λ z. Passed c.args.index.now c.args.entries.now c.args.count c.args.key z)
    (masked_place c.memo_hash.result (hash_of c.args.key) _ _ c.requires.1 c.memo_hash.ensures)
    (passed_by c.in-Some.ensures c.same_key.ensures c.if-same_key.false))
