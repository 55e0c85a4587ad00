use Rattle.std.proofs.Common.{◌∷◌, [], sym, ◌∙◌, arith, length-append}
use Rattle.tcel_trace.proofs.TraceTexts.{no_feed, no_line, line_more, some_left}
use Rattle.tcel_trace.proofs.reader.read_trace.Goals as goal

pub returns-in_default : goal.returns-in_default
returns-in_default c = record {
  front = c.loop-rest.lines.items;
  rest = c.loop-rest.rest.now;
  fit = c.loop-rest.invariant.fit;
  text = c.loop-rest.invariant.so_far;
  at = omega (arith, c.loop-rest.invariant.counted);
  more = some_left c.loop-rest.rest.now (sym c.is_empty.ensures ∙ c.loop-rest-test.true);
  bad = no_feed c.loop-rest.rest.now c.in_default.ensures.none;
}

pub returns-in_default-2 : goal.returns-in_default-2
returns-in_default-2 c = record {
  front = c.loop-rest.lines.items;
  rest = c.loop-rest.rest.now;
  fit = c.loop-rest.invariant.fit;
  text = c.loop-rest.invariant.so_far;
  at = omega (arith, c.loop-rest.invariant.counted);
  more = some_left c.loop-rest.rest.now (sym c.is_empty.ensures ∙ c.loop-rest-test.true);
  bad = no_line c.loop-rest.rest.now c.in-Some.text.now c.in-Some.more.now c.in-Some.ensures.found (sym c.in_ok-line.ensures ∙ c.in_default-2.is);
}

pub loop-rest-preserved : goal.loop-rest-preserved
loop-rest-preserved c =
    let told = line_more c.args.bytes.now c.loop-rest.rest.now c.in-Some.text.now c.in-Some.more.now
    c.loop-rest.lines.items c.in-Some-2.line c.loop-rest.invariant.fit c.loop-rest.invariant.so_far c.in-Some.ensures.found
    (sym c.in_ok-line.ensures ∙ c.in-Some-2.is) in
    rw (c.in_ok-push.ensures.items) (record {
      counted = omega (arith, c.loop-rest.invariant.counted, length-append c.loop-rest.lines.items (c.in-Some-2.line ∷ []));
      left = omega (arith, c.loop-rest.invariant.left, c.in-Some.ensures.shorter);
      fit = told.0;
      so_far = told.1;
    })
