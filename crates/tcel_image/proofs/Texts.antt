-- The texts of the worked examples.
use Rattle.std.proofs.Common.{◌≡◌, [], refl, codes}
use Rattle.std.specs.Fmt.{digits}
use Rattle.std.specs.Int.{int_wrap}
use Rattle.tcel_image.specs.Machine.{trace}
use Rattle.tcel_image.specs.TraceText.{text}
use Rattle.tcel_image.specs.Examples.{busy, busy_streams, busy_trace, echo, echo_streams, shifting}

pub echo-text : text echo (trace echo echo_streams 10) ≡ codes "1 t 0 receive s 5\n3 t 0 send o 5\n8 t 0 first\n9 t 0 end n=1\n"
unfolding digits int_wrap
echo-text = refl

pub shifting-text : text shifting (trace shifting [] 6) ≡ codes "5 t 0 first\n6 t 0 end a=[1,1,2] b=true\n"
unfolding digits int_wrap
shifting-text = refl

pub busy-trace : trace busy busy_streams 420 ≡ busy_trace
unfolding int_wrap
busy-trace = refl
