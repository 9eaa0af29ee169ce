-- Demand 3 holds for every polynomial, in any number of variables, over every box.
use Rattle.algebra.proofs.Power.{pos_pow}
use Rattle.forms.specs.Demand3.{Contained, StrictlySigned, NoOvershoot, ZeroGiven, Sized}
use Rattle.forms.proofs.Containment.{lower_below_value, value_below_upper, value_positive, value_negative}
use Rattle.forms.proofs.Overshoot.{lower_over_corners, upper_over_corners}
use Rattle.forms.proofs.NoBend.{zero_positive, zero_in_box, zero_vanishes}
use Rattle.forms.proofs.Size.{local_sum_size, lower_size, upper_size, bend_size, value_in_box_size}

pub contained : Contained
contained F mode u H x Q h = rw (← (pos_pow Q F.degree)) (lower_below_value F u H x Q h mode, value_below_upper F u H x Q h mode)

pub strictly_signed : StrictlySigned
strictly_signed F mode u H x Q q h = (value_positive F u H x Q h mode q, value_negative F u H x Q h mode q)

pub no_overshoot : NoOvershoot
no_overshoot F mode u H = (lower_over_corners F u H mode, upper_over_corners F u H mode)

pub zero_given : ZeroGiven
zero_given F mode u H s lo up = (zero_positive F u H s mode lo up, zero_in_box F u H s mode lo up, zero_vanishes F u H s mode lo up)

pub sized : Sized
sized F mode u H R h = (local_sum_size F u H R h, lower_size F u H R h mode, upper_size F u H R h mode, bend_size F u H R h, λ x b. value_in_box_size F u H R x h b)
