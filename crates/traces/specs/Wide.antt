-- Histories at 32 slots. Made by make_tables.py; the texts are what the oracle printed.
use Rattle.std.specs.Prelude.{List, [], ◌∷◌, true}
use Rattle.machine.specs.Machine.{Open, Close, Get, Set, Append, Length, Held, Free, Check}
use Rattle.traces.specs.Told.{History, call, pushes, pops}

abbrev pub histories : List History
histories =
    record {
      blocks = 300;
      moves = call (Open 0 300) ∷ call (Open 0 300) ∷ pushes 31 0 1 ∷ pushes 1 1 32 ∷ call (Append true 0 1) ∷ call (Held 0) ∷ call (Length 1) ∷ call (Get 0 0) ∷ call (Get 0 31) ∷ call (Get 0 32) ∷ [];
      told = "0 0, 0 1, 0 x33, 0 1, 0 0, 0 1, 0 32, 4,";
      left = "0: shift 0 tree 32 tail 0; 1: shift 0 tree - tail 0;";
    }
    ∷
    record {
      blocks = 300;
      moves = call (Open 0 300) ∷ call (Open 0 300) ∷ pushes 33 0 1 ∷ pushes 32 1 34 ∷ call (Append true 0 1) ∷ pushes 40 0 66 ∷ call (Held 0) ∷ call (Length 1) ∷ call (Get 0 0) ∷ call (Get 0 64) ∷ call (Get 0 105) ∷ [];
      told = "0 0, 0 1, 0 x106, 0 5, 0 0, 0 1, 0 65, 4,";
      left = "0: shift 5 tree R[32 32 1 32]{32 64 65 97} tail 8; 1: shift 0 tree - tail 0;";
    }
    ∷
    record {
      blocks = 300;
      moves = call (Open 0 300) ∷ call (Open 0 300) ∷ pushes 5 0 1 ∷ pushes 32 1 6 ∷ call (Append true 0 1) ∷ call (Held 0) ∷ call (Length 1) ∷ call (Get 0 0) ∷ call (Get 0 36) ∷ call (Get 0 37) ∷ [];
      told = "0 0, 0 1, 0 x38, 0 3, 0 0, 0 1, 0 37, 4,";
      left = "0: shift 5 tree R[32 5]{32 37} tail 0; 1: shift 0 tree - tail 0;";
    }
    ∷
    record {
      blocks = 300;
      moves = call (Open 0 300) ∷ call (Open 0 300) ∷ pushes 20 0 1 ∷ pushes 12 1 21 ∷ call (Append true 0 1) ∷ call (Held 0) ∷ call (Length 1) ∷ call (Get 0 0) ∷ call (Get 0 31) ∷ call (Get 0 32) ∷ [];
      told = "0 0, 0 1, 0 x33, 0 1, 0 0, 0 1, 0 32, 4,";
      left = "0: shift 0 tree 32 tail 0; 1: shift 0 tree - tail 0;";
    }
    ∷
    record {
      blocks = 300;
      moves = call (Open 0 300) ∷ call (Open 0 300) ∷ pushes 20 0 1 ∷ pushes 13 1 21 ∷ call (Append true 0 1) ∷ call (Held 0) ∷ call (Length 1) ∷ call (Get 0 0) ∷ call (Get 0 32) ∷ call (Get 0 33) ∷ [];
      told = "0 0, 0 1, 0 x34, 0 1, 0 0, 0 1, 0 33, 4,";
      left = "0: shift 0 tree 32 tail 1; 1: shift 0 tree - tail 0;";
    }
    ∷
    record {
      blocks = 300;
      moves = call (Open 0 300) ∷ call (Open 0 300) ∷ pushes 37 0 1 ∷ pushes 32 1 38 ∷ call (Append true 0 1) ∷ pushes 64 0 70 ∷ call (Held 0) ∷ call (Length 1) ∷ call (Get 0 0) ∷ call (Get 0 68) ∷ call (Get 0 133) ∷ [];
      told = "0 0, 0 1, 0 x134, 0 6, 0 0, 0 1, 0 69, 4,";
      left = "0: shift 5 tree R[32 32 5 32 32]{32 64 69 101 133} tail 0; 1: shift 0 tree - tail 0;";
    }
    ∷
    record {
      blocks = 300;
      moves = call (Open 0 300) ∷ call (Open 0 300) ∷ pushes 32 0 1 ∷ pushes 32 1 33 ∷ call (Append true 0 1) ∷ call (Held 0) ∷ call (Length 1) ∷ call (Get 0 0) ∷ call (Get 0 63) ∷ call (Get 0 64) ∷ [];
      told = "0 0, 0 1, 0 x65, 0 3, 0 0, 0 1, 0 64, 4,";
      left = "0: shift 5 tree B[32 32] tail 0; 1: shift 0 tree - tail 0;";
    }
    ∷
    record {
      blocks = 300;
      moves = call (Open 0 300) ∷ call (Open 0 300) ∷ pushes 1 0 1 ∷ pushes 1024 1 2 ∷ call (Append true 0 1) ∷ pushes 33 0 1026 ∷ call (Held 0) ∷ call (Length 1) ∷ call (Get 0 0) ∷ call (Get 0 1024) ∷ call (Get 0 1058) ∷ [];
      told = "0 0, 0 1, 0 x1059, 0 37, 0 0, 0 1, 0 1025, 4,";
      left = "0: shift 10 tree R[B[32 32 32 32 32 32 32 32 32 32 32 32 32 32 32 32 32 32 32 32 32 32 32 32 32 32 32 32 32 32 32 32] R[1 32]{1 33}]{1024 1057} tail 1; 1: shift 0 tree - tail 0;";
    }
    ∷
    record {
      blocks = 300;
      moves = call (Open 0 300) ∷ call (Open 0 300) ∷ pushes 1024 0 1 ∷ pushes 1024 1 1025 ∷ call (Append true 0 1) ∷ call (Held 0) ∷ call (Length 1) ∷ call (Get 0 0) ∷ call (Get 0 2047) ∷ call (Get 0 2048) ∷ [];
      told = "0 0, 0 1, 0 x2049, 0 67, 0 0, 0 1, 0 2048, 4,";
      left = "0: shift 10 tree B[B[32 32 32 32 32 32 32 32 32 32 32 32 32 32 32 32 32 32 32 32 32 32 32 32 32 32 32 32 32 32 32 32] B[32 32 32 32 32 32 32 32 32 32 32 32 32 32 32 32 32 32 32 32 32 32 32 32 32 32 32 32 32 32 32 32]] tail 0; 1: shift 0 tree - tail 0;";
    }
    ∷
    record {
      blocks = 300;
      moves = call (Open 0 300) ∷ pushes 1024 0 1 ∷ call (Held 0) ∷ pops 1 0 ∷ call (Held 0) ∷ [];
      told = "0 0, 0 x1024, 0 33, 0 1024, 0 32,";
      left = "0: shift 5 tree B[32 32 32 32 32 32 32 32 32 32 32 32 32 32 32 32 32 32 32 32 32 32 32 32 32 32 32 32 32 32 32] tail 31;";
    }
    ∷
    record {
      blocks = 300;
      moves = call (Open 0 300) ∷ pushes 1056 0 1 ∷ call (Held 0) ∷ pops 1 0 ∷ call (Held 0) ∷ [];
      told = "0 0, 0 x1056, 0 36, 0 1056, 0 33,";
      left = "0: shift 5 tree B[32 32 32 32 32 32 32 32 32 32 32 32 32 32 32 32 32 32 32 32 32 32 32 32 32 32 32 32 32 32 32 32] tail 31;";
    }
    ∷
    record {
      blocks = 300;
      moves = call (Open 0 300) ∷ call (Open 0 300) ∷ pushes 33 0 1 ∷ pushes 1 1 34 ∷ call (Append true 1 0) ∷ pushes 1 0 35 ∷ call (Append true 0 1) ∷ pushes 1 1 36 ∷ call (Append true 1 0) ∷ call (Held 1) ∷ pops 33 1 ∷ pushes 34 1 37 ∷ [];
      told = "0 0, 0 1, 0 x39, 0 3, 0 33, 0 32, 0 31, 0 30, 0 29, 0 28, 0 27, 0 26, 0 25, 0 24, 0 23, 0 22, 0 21, 0 20, 0 19, 0 18, 0 17, 0 16, 0 15, 0 14, 0 13, 0 12, 0 11, 0 10, 0 9, 0 8, 0 7, 0 6, 0 5, 0 4, 0 3, 0 2, 0 1, 0 x34,";
      left = "0: shift 0 tree - tail 0; 1: shift 0 tree 32 tail 5;";
    }
    ∷
    record {
      blocks = 300;
      moves = call (Open 0 300) ∷ call (Open 0 300) ∷ call (Open 0 300) ∷ pops 2 1 ∷ pops 34 2 ∷ pops 2 2 ∷ call (Set 1 54 1) ∷ call (Get 1 85) ∷ call (Append true 1 2) ∷ pushes 31 2 2 ∷ call (Append true 0 2) ∷ call (Set 1 24 33) ∷ call (Get 1 11) ∷ pushes 31 0 34 ∷ call (Append true 2 1) ∷ pushes 32 1 65 ∷ pops 2 2 ∷ call (Append true 1 2) ∷ call (Append true 0 2) ∷ call (Held 0) ∷ call (Length 0) ∷ call (Held 1) ∷ call (Length 1) ∷ call (Held 2) ∷ call (Length 2) ∷ call Check ∷ [];
      told = "0 0, 0 1, 0 2, 4 x40, 0 x33, 4 x2, 0 x64, 4 x2, 0 x2, 0 1, 0 62, 0 1, 0 32, 0 0 x2, 0,";
      left = "0: shift 0 tree 32 tail 30; 1: shift 0 tree 32 tail 0; 2: shift 0 tree - tail 0;";
    }
    ∷
    record {
      blocks = 300;
      moves = call (Open 0 300) ∷ call (Open 0 300) ∷ call (Open 0 300) ∷ pushes 31 1 1 ∷ call (Append true 2 0) ∷ pops 32 2 ∷ call (Append true 1 2) ∷ pushes 2 0 32 ∷ call (Append true 2 1) ∷ pushes 31 1 34 ∷ pushes 513 2 65 ∷ pushes 65 0 578 ∷ call (Append true 1 0) ∷ call (Append true 1 0) ∷ pops 32 1 ∷ call (Append true 0 2) ∷ call (Append true 1 2) ∷ call (Held 0) ∷ call (Length 0) ∷ call (Held 1) ∷ call (Length 1) ∷ call (Held 2) ∷ call (Length 2) ∷ call Check ∷ [];
      told = "0 0, 0 1, 0 2, 0 x32, 4 x32, 0 x615, 0 642, 0 641, 0 640, 0 639, 0 638, 0 637, 0 636, 0 635, 0 634, 0 633, 0 632, 0 631, 0 630, 0 629, 0 628, 0 627, 0 626, 0 625, 0 624, 0 623, 0 622, 0 621, 0 620, 0 619, 0 618, 0 617, 0 616, 0 615, 0 614, 0 613, 0 612, 0 611, 0 x2, 0 18, 0 544, 0 3, 0 66, 0 0 x2, 0,";
      left = "0: shift 5 tree B[32 32 32 32 32 32 32 32 32 32 32 32 32 32 32 32 32] tail 0; 1: shift 5 tree R[32 32]{32 64} tail 2; 2: shift 0 tree - tail 0;";
    }
    ∷
    record {
      blocks = 300;
      moves = call (Open 0 300) ∷ call (Open 0 300) ∷ call (Open 0 300) ∷ call (Set 0 39 1) ∷ call (Get 0 60) ∷ pops 2 0 ∷ pushes 2 2 2 ∷ call (Append true 2 0) ∷ call (Append true 2 1) ∷ pushes 65 2 4 ∷ call (Set 2 38 69) ∷ call (Get 2 24) ∷ pushes 65 1 70 ∷ call (Append true 1 0) ∷ call (Set 1 2 135) ∷ call (Get 1 26) ∷ call (Append true 0 2) ∷ pops 32 1 ∷ pushes 65 2 136 ∷ pushes 65 0 201 ∷ call (Held 0) ∷ call (Length 0) ∷ call (Held 1) ∷ call (Length 1) ∷ call (Held 2) ∷ call (Length 2) ∷ call Check ∷ [];
      told = "0 0, 0 1, 0 2, 4 x4, 0 x70, 0 26, 0 x67, 0 96, 0, 0 134, 0 133, 0 132, 0 131, 0 130, 0 129, 0 128, 0 127, 0 126, 0 125, 0 124, 0 123, 0 122, 0 121, 0 120, 0 119, 0 118, 0 117, 0 116, 0 115, 0 114, 0 113, 0 112, 0 111, 0 110, 0 109, 0 108, 0 107, 0 106, 0 105, 0 104, 0 103, 0 x130, 0 5, 0 132, 0 1, 0 33, 0 3, 0 65, 0,";
      left = "0: shift 5 tree B[32 32 32 32] tail 4; 1: shift 0 tree 32 tail 1; 2: shift 5 tree B[32 32] tail 1;";
    }
    ∷
    record {
      blocks = 300;
      moves = call (Open 0 300) ∷ call (Open 0 300) ∷ call (Open 0 300) ∷ pushes 1 2 1 ∷ pops 32 2 ∷ call (Set 2 62 2) ∷ call (Get 2 54) ∷ pops 34 2 ∷ pops 2 2 ∷ pushes 31 0 3 ∷ pushes 2 1 34 ∷ pushes 2 0 36 ∷ pops 2 0 ∷ call (Append true 2 0) ∷ pushes 33 1 38 ∷ pushes 33 0 71 ∷ call (Set 2 48 104) ∷ call (Get 2 46) ∷ pops 32 2 ∷ call (Held 0) ∷ call (Length 0) ∷ call (Held 1) ∷ call (Length 1) ∷ call (Held 2) ∷ call (Length 2) ∷ call Check ∷ [];
      told = "0 0, 0 1, 0 2, 0, 0 1, 4 x69, 0 x35, 0 37, 0 36, 0 x67, 4 x2, 0 33, 0 32, 0 31, 0 30, 0 29, 0 28, 0 27, 0 26, 0 25, 0 24, 0 23, 0 22, 0 21, 0 20, 0 19, 0 18, 0 17, 0 16, 0 15, 0 14, 0 13, 0 12, 0 11, 0 10, 0 9, 0 8, 0 7, 0 6, 0 5, 0 4, 0 3, 4, 0 1, 0 33, 0 1, 0 35, 0 0 x2, 0,";
      left = "0: shift 0 tree 32 tail 1; 1: shift 0 tree 32 tail 3; 2: shift 0 tree - tail 0;";
    }
    ∷
    record {
      blocks = 300;
      moves = call (Open 0 300) ∷ call (Open 0 300) ∷ call (Open 0 300) ∷ pushes 2 1 1 ∷ pops 32 2 ∷ pushes 33 1 3 ∷ pushes 2 2 36 ∷ pushes 65 2 38 ∷ pops 1 1 ∷ pops 32 1 ∷ pushes 65 1 103 ∷ call (Append true 1 2) ∷ pushes 1 0 168 ∷ pushes 1 2 169 ∷ pops 2 1 ∷ pops 34 2 ∷ pushes 2 1 170 ∷ call (Held 0) ∷ call (Length 0) ∷ call (Held 1) ∷ call (Length 1) ∷ call (Held 2) ∷ call (Length 2) ∷ call Check ∷ [];
      told = "0 0, 0 1, 0 2, 0 x2, 4 x32, 0 x100, 0 35, 0 34, 0 33, 0 32, 0 31, 0 30, 0 29, 0 28, 0 27, 0 26, 0 25, 0 24, 0 23, 0 22, 0 21, 0 20, 0 19, 0 18, 0 17, 0 16, 0 15, 0 14, 0 13, 0 12, 0 11, 0 10, 0 9, 0 8, 0 7, 0 6, 0 5, 0 4, 0 3, 0 x68, 0 102, 0 101, 0 169, 4 x33, 0 x2, 0 0, 0 1, 0 6, 0 134, 0 0 x2, 0,";
      left = "0: shift 0 tree - tail 1; 1: shift 5 tree R[32 32 32 32 3]{32 64 96 128 131} tail 3; 2: shift 0 tree - tail 0;";
    }
    ∷
    record {
      blocks = 300;
      moves = call (Open 0 300) ∷ call (Open 0 300) ∷ call (Open 0 300) ∷ pushes 1 1 1 ∷ pushes 513 0 2 ∷ call (Append true 2 1) ∷ pushes 31 0 515 ∷ call (Append true 0 2) ∷ call (Append true 2 0) ∷ pushes 513 1 546 ∷ call (Append true 1 2) ∷ call (Append true 2 1) ∷ pushes 31 1 1059 ∷ call (Append true 0 1) ∷ pushes 32 0 1090 ∷ call (Append true 2 0) ∷ pushes 2 2 1122 ∷ call (Held 0) ∷ call (Length 0) ∷ call (Held 1) ∷ call (Length 1) ∷ call (Held 2) ∷ call (Length 2) ∷ call Check ∷ [];
      told = "0 0, 0 1, 0 2, 0 x1130, 0 0 x4, 0 39, 0 1123, 0,";
      left = "0: shift 0 tree - tail 0; 1: shift 0 tree - tail 0; 2: shift 10 tree R[B[32 32 32 32 32 32 32 32 32 32 32 32 32 32 32 32 32 32 32 32 32 32 32 32 32 32 32 32 32 32 32 32] R[32 32 2 32]{32 64 66 98}]{1024 1122} tail 1;";
    }
    ∷
    record {
      blocks = 300;
      moves = call (Open 0 300) ∷ call (Open 0 300) ∷ call (Open 0 300) ∷ call (Append true 0 1) ∷ pushes 513 0 1 ∷ call (Set 1 45 514) ∷ call (Get 1 56) ∷ pops 34 0 ∷ pushes 65 2 515 ∷ pushes 513 0 580 ∷ pushes 65 2 1093 ∷ call (Set 1 12 1158) ∷ call (Get 1 17) ∷ call (Append true 0 2) ∷ call (Append true 1 2) ∷ pops 32 1 ∷ pushes 65 0 1159 ∷ pushes 33 1 1224 ∷ pushes 513 2 1257 ∷ call (Held 0) ∷ call (Length 0) ∷ call (Held 1) ∷ call (Length 1) ∷ call (Held 2) ∷ call (Length 2) ∷ call Check ∷ [];
      told = "0 0, 0 1, 0 2, 0 x514, 4 x2, 0 513, 0 512, 0 511, 0 510, 0 509, 0 508, 0 507, 0 506, 0 505, 0 504, 0 503, 0 502, 0 501, 0 500, 0 499, 0 498, 0 497, 0 496, 0 495, 0 494, 0 493, 0 492, 0 491, 0 490, 0 489, 0 488, 0 487, 0 486, 0 485, 0 484, 0 483, 0 482, 0 481, 0 480, 0 x643, 4 x2, 0 x2, 4 x32, 0 x611, 0 40, 0 1187, 0 1, 0 33, 0 17, 0 513, 0,";
      left = "0: shift 10 tree R[B[32 32 32 32 32 32 32 32 32 32 32 32 32 32 32 32 32 32 32 32 32 32 32 32 32 32 32 32 32 32 32 32] B[32 32 32 32 32]]{1024 1184} tail 3; 1: shift 0 tree 32 tail 1; 2: shift 5 tree B[32 32 32 32 32 32 32 32 32 32 32 32 32 32 32 32] tail 1;";
    }
    ∷
    record {
      blocks = 300;
      moves = call (Open 0 300) ∷ call (Open 0 300) ∷ call (Open 0 300) ∷ call (Set 0 12 1) ∷ call (Get 0 86) ∷ pushes 513 1 2 ∷ pushes 32 2 515 ∷ call (Append true 2 0) ∷ pushes 2 1 547 ∷ call (Set 2 10 549) ∷ call (Get 2 90) ∷ call (Append true 1 0) ∷ call (Append true 2 0) ∷ pushes 513 0 550 ∷ pops 2 2 ∷ pops 2 2 ∷ pushes 2 1 1063 ∷ call (Set 2 22 1065) ∷ call (Get 2 45) ∷ pops 1 2 ∷ call (Held 0) ∷ call (Length 0) ∷ call (Held 1) ∷ call (Length 1) ∷ call (Held 2) ∷ call (Length 2) ∷ call Check ∷ [];
      told = "0 0, 0 1, 0 2, 4 x2, 0 x549, 4, 0 x515, 0 546, 0 545, 0 544, 0 543, 0 x3, 4, 0 542, 0 17, 0 513, 0 17, 0 517, 0 0, 0 27, 0,";
      left = "0: shift 5 tree B[32 32 32 32 32 32 32 32 32 32 32 32 32 32 32 32] tail 1; 1: shift 5 tree B[32 32 32 32 32 32 32 32 32 32 32 32 32 32 32 32] tail 5; 2: shift 0 tree - tail 27;";
    }
    ∷
    record {
      blocks = 300;
      moves = call (Open 0 300) ∷ call (Open 0 300) ∷ call (Open 0 300) ∷ call (Append true 0 1) ∷ pushes 33 2 1 ∷ pushes 2 2 34 ∷ call (Set 2 32 36) ∷ call (Get 2 43) ∷ pushes 33 0 37 ∷ call (Append true 2 1) ∷ pushes 513 0 70 ∷ call (Set 0 42 583) ∷ call (Get 0 41) ∷ pops 2 1 ∷ call (Append true 0 2) ∷ call (Append true 1 2) ∷ pushes 1 0 584 ∷ pops 34 2 ∷ pops 1 2 ∷ call (Held 0) ∷ call (Length 0) ∷ call (Held 1) ∷ call (Length 1) ∷ call (Held 2) ∷ call (Length 2) ∷ call Check ∷ [];
      told = "0 0, 0 1, 0 2, 0 x37, 4, 0 x548, 0 78, 4 x2, 0 x3, 4 x35, 0 20, 0 582, 0 0 x4, 0,";
      left = "0: shift 5 tree R[32 32 32 32 32 32 32 32 32 32 32 32 32 32 32 32 32 32 2]{32 64 96 128 160 192 224 256 288 320 352 384 416 448 480 512 544 576 578} tail 4; 1: shift 0 tree - tail 0; 2: shift 0 tree - tail 0;";
    }
    ∷
    record {
      blocks = 300;
      moves = call (Open 0 300) ∷ call (Open 0 300) ∷ call (Open 0 300) ∷ call (Append true 0 1) ∷ call (Set 0 13 1) ∷ call (Get 0 21) ∷ call (Append true 0 2) ∷ pushes 33 0 2 ∷ call (Append true 2 1) ∷ pushes 1 0 35 ∷ call (Set 1 22 36) ∷ call (Get 1 24) ∷ call (Append true 1 2) ∷ pushes 513 0 37 ∷ pushes 2 2 550 ∷ call (Append true 1 0) ∷ pops 34 0 ∷ call (Set 2 38 552) ∷ call (Get 2 19) ∷ pushes 1 0 553 ∷ call (Held 0) ∷ call (Length 0) ∷ call (Held 1) ∷ call (Length 1) ∷ call (Held 2) ∷ call (Length 2) ∷ call Check ∷ [];
      told = "0 0, 0 1, 0 2, 0, 4 x2, 0 x36, 4 x2, 0 x517, 4 x36, 0, 0 0, 0 1, 0 18, 0 547, 0 0, 0 2, 0,";
      left = "0: shift 0 tree - tail 1; 1: shift 5 tree B[32 32 32 32 32 32 32 32 32 32 32 32 32 32 32 32 32] tail 3; 2: shift 0 tree - tail 2;";
    }
    ∷
    record {
      blocks = 300;
      moves = call (Open 0 300) ∷ call (Open 0 300) ∷ call (Open 0 300) ∷ pops 32 1 ∷ call (Set 1 17 1) ∷ call (Get 1 19) ∷ pushes 65 1 2 ∷ call (Append true 1 2) ∷ pushes 2 2 67 ∷ call (Set 1 27 69) ∷ call (Get 1 5) ∷ call (Append true 1 2) ∷ call (Append true 0 2) ∷ pops 1 2 ∷ pops 2 0 ∷ pops 2 0 ∷ pops 32 2 ∷ call (Set 0 54 70) ∷ call (Get 0 76) ∷ pushes 513 1 71 ∷ call (Held 0) ∷ call (Length 0) ∷ call (Held 1) ∷ call (Length 1) ∷ call (Held 2) ∷ call (Length 2) ∷ call Check ∷ [];
      told = "0 0, 0 1, 0 2, 4 x34, 0 x69, 0 7, 0 x2, 4 x39, 0 x513, 0 0 x2, 0 19, 0 580, 0 0 x2, 0,";
      left = "0: shift 0 tree - tail 0; 1: shift 5 tree B[32 32 32 32 32 32 32 32 32 32 32 32 32 32 32 32 32 32] tail 4; 2: shift 0 tree - tail 0;";
    }
    ∷
    record {
      blocks = 300;
      moves = call (Open 0 300) ∷ call (Open 0 300) ∷ call (Open 0 300) ∷ call (Append true 2 0) ∷ pushes 2 1 1 ∷ pushes 32 1 3 ∷ call (Append true 0 1) ∷ pushes 31 1 35 ∷ call (Append true 2 0) ∷ pushes 513 1 66 ∷ call (Append true 2 0) ∷ pops 32 1 ∷ call (Set 2 22 579) ∷ call (Get 2 22) ∷ pushes 2 2 580 ∷ pops 32 0 ∷ call (Append true 2 0) ∷ call (Set 2 16 582) ∷ call (Get 2 22) ∷ call (Held 0) ∷ call (Length 0) ∷ call (Held 1) ∷ call (Length 1) ∷ call (Held 2) ∷ call (Length 2) ∷ call Check ∷ [];
      told = "0 0, 0 1, 0 2, 0 x582, 0 578, 0 577, 0 576, 0 575, 0 574, 0 573, 0 572, 0 571, 0 570, 0 569, 0 568, 0 567, 0 566, 0 565, 0 564, 0 563, 0 562, 0 561, 0 560, 0 559, 0 558, 0 557, 0 556, 0 555, 0 554, 0 553, 0 552, 0 551, 0 550, 0 549, 0 548, 0 547, 0, 0 579, 0 x2, 4 x32, 0 x2, 0 579, 0 0 x2, 0 17, 0 512, 0 1, 0 36, 0,";
      left = "0: shift 0 tree - tail 0; 1: shift 5 tree B[32 32 32 32 32 32 32 32 32 32 32 32 32 32 32 32] tail 0; 2: shift 0 tree 32 tail 4;";
    }
    ∷
    record {
      blocks = 300;
      moves = call (Open 0 300) ∷ call (Open 0 300) ∷ call (Open 0 300) ∷ call (Set 0 41 1) ∷ call (Get 0 85) ∷ pops 1 0 ∷ pushes 31 2 2 ∷ call (Append true 2 1) ∷ call (Append true 2 0) ∷ call (Append true 1 0) ∷ pops 2 0 ∷ call (Append true 1 2) ∷ pops 2 1 ∷ call (Set 0 63 33) ∷ call (Get 0 81) ∷ pushes 65 0 34 ∷ pushes 2 1 99 ∷ pushes 2 2 101 ∷ call (Append true 1 2) ∷ call (Held 0) ∷ call (Length 0) ∷ call (Held 1) ∷ call (Length 1) ∷ call (Held 2) ∷ call (Length 2) ∷ call Check ∷ [];
      told = "0 0, 0 1, 0 2, 4 x3, 0 x34, 4 x2, 0, 0 32, 0 31, 4 x2, 0 x70, 0 3, 0 65, 0 1, 0 33, 0 0 x2, 0,";
      left = "0: shift 5 tree B[32 32] tail 1; 1: shift 0 tree 32 tail 1; 2: shift 0 tree - tail 0;";
    }
    ∷
    record {
      blocks = 300;
      moves = call (Open 0 300) ∷ call (Open 0 300) ∷ call (Open 0 300) ∷ call (Set 1 53 1) ∷ call (Get 1 33) ∷ pops 34 1 ∷ call (Set 2 6 2) ∷ call (Get 2 18) ∷ call (Append true 2 0) ∷ pushes 31 2 3 ∷ call (Append true 0 1) ∷ pushes 1 0 34 ∷ pushes 33 2 35 ∷ pops 2 0 ∷ pops 32 0 ∷ pushes 65 1 68 ∷ call (Append true 2 1) ∷ pushes 33 1 133 ∷ pops 32 1 ∷ call (Held 0) ∷ call (Length 0) ∷ call (Held 1) ∷ call (Length 1) ∷ call (Held 2) ∷ call (Length 2) ∷ call Check ∷ [];
      told = "0 0, 0 1, 0 2, 4 x38, 0 x67, 0 34, 4 x33, 0 x99, 0 165, 0 164, 0 163, 0 162, 0 161, 0 160, 0 159, 0 158, 0 157, 0 156, 0 155, 0 154, 0 153, 0 152, 0 151, 0 150, 0 149, 0 148, 0 147, 0 146, 0 145, 0 144, 0 143, 0 142, 0 141, 0 140, 0 139, 0 138, 0 137, 0 136, 0 135, 0 134, 0 0 x3, 0 1, 0 5, 0 129, 0,";
      left = "0: shift 0 tree - tail 0; 1: shift 0 tree - tail 1; 2: shift 5 tree B[32 32 32 32] tail 1;";
    }
    ∷
    record {
      blocks = 300;
      moves = call (Open 0 300) ∷ call (Open 0 300) ∷ call (Open 0 300) ∷ pops 2 1 ∷ pushes 65 2 1 ∷ pops 34 2 ∷ call (Append true 0 2) ∷ pushes 1 0 66 ∷ call (Set 1 49 67) ∷ call (Get 1 64) ∷ pushes 33 1 68 ∷ pops 2 1 ∷ pops 1 2 ∷ call (Append true 1 2) ∷ pushes 31 0 101 ∷ pushes 513 0 132 ∷ pops 34 2 ∷ call (Set 2 11 645) ∷ call (Get 2 27) ∷ call (Held 0) ∷ call (Length 0) ∷ call (Held 1) ∷ call (Length 1) ∷ call (Held 2) ∷ call (Length 2) ∷ call Check ∷ [];
      told = "0 0, 0 1, 0 2, 4 x2, 0 x65, 0 65, 0 64, 0 63, 0 62, 0 61, 0 60, 0 59, 0 58, 0 57, 0 56, 0 55, 0 54, 0 53, 0 52, 0 51, 0 50, 0 49, 0 48, 0 47, 0 46, 0 45, 0 44, 0 43, 0 42, 0 41, 0 40, 0 39, 0 38, 0 37, 0 36, 0 35, 0 34, 0 33, 0 32, 0 x2, 4 x2, 0 x33, 0 100, 0 99, 4, 0 x545, 4 x36, 0 19, 0 576, 0 0, 0 31, 0 0 x2, 0,";
      left = "0: shift 5 tree B[32 32 32 32 32 32 32 32 32 32 32 32 32 32 32 32 32 32] tail 0; 1: shift 0 tree - tail 31; 2: shift 0 tree - tail 0;";
    }
    ∷
    record {
      blocks = 300;
      moves = call (Open 0 300) ∷ call (Open 0 300) ∷ call (Open 0 300) ∷ call (Append true 1 2) ∷ pushes 31 1 1 ∷ call (Append true 0 1) ∷ pushes 2 2 32 ∷ pushes 32 2 34 ∷ call (Set 0 28 66) ∷ call (Get 0 65) ∷ pushes 31 2 67 ∷ pops 2 1 ∷ call (Append true 0 2) ∷ call (Append true 0 2) ∷ call (Append true 2 1) ∷ call (Append true 1 2) ∷ call (Append true 2 1) ∷ pushes 65 0 98 ∷ call (Held 0) ∷ call (Length 0) ∷ call (Held 1) ∷ call (Length 1) ∷ call (Held 2) ∷ call (Length 2) ∷ call Check ∷ [];
      told = "0 0, 0 1, 0 2, 0 x68, 4, 0 x31, 4 x2, 0 x70, 0 6, 0 161, 0 0 x4, 0,";
      left = "0: shift 5 tree R[32 32 31 32 32]{32 64 95 127 159} tail 2; 1: shift 0 tree - tail 0; 2: shift 0 tree - tail 0;";
    }
    ∷
    record {
      blocks = 5;
      moves = call (Open 1 5) ∷ call (Open 1 4) ∷ call (Open 1 5) ∷ call (Open 1 6) ∷ call (Close 0) ∷ call (Append true 0 2) ∷ call (Close 1) ∷ pushes 32 2 1 ∷ call (Append true 0 0) ∷ call (Close 1) ∷ pushes 32 4 33 ∷ pushes 32 0 65 ∷ pushes 33 2 97 ∷ pushes 31 1 130 ∷ pushes 33 1 161 ∷ call Free ∷ [];
      told = "0 0, 0 1, 0 2, 9, 0, 2, 0 x33, 2 x66, 0 x33, 2 x64, 0 2,";
      left = "2: shift 5 tree B[32 32] tail 1;";
    }
    ∷
    record {
      blocks = 5;
      moves = call (Open 0 5) ∷ call (Open 0 4) ∷ call (Open 1 4) ∷ pushes 32 3 1 ∷ call (Append true 2 2) ∷ pushes 31 4 33 ∷ pushes 33 1 64 ∷ pushes 33 0 97 ∷ call (Append true 0 0) ∷ pushes 64 0 130 ∷ call (Close 1) ∷ call Free ∷ call (Held 1) ∷ call (Length 1) ∷ pushes 64 2 194 ∷ call (Open 1 3) ∷ call (Close 4) ∷ call Free ∷ [];
      told = "0 0, 0 1, 0 2, 2 x32, 3, 2 x31, 0 x66, 3, 0 x62, 6 x2, 0, 0 2, 2 x2, 0 x63, 6, 0 1, 2, 0 1,";
      left = "0: shift 5 tree B[32 32] tail 31; 1: shift 0 tree - tail 0; 2: shift 0 tree 32 tail 31;";
    }
    ∷
    record {
      blocks = 5;
      moves = call (Open 0 2) ∷ call (Open 1 3) ∷ call (Open 0 1) ∷ call Free ∷ call (Held 2) ∷ call (Length 2) ∷ call (Close 0) ∷ pushes 33 1 1 ∷ pushes 32 0 34 ∷ pushes 64 3 66 ∷ pushes 64 0 130 ∷ call (Append true 1 2) ∷ call Free ∷ call (Held 0) ∷ call (Length 0) ∷ pushes 32 1 194 ∷ pushes 33 2 226 ∷ call (Open 0 4) ∷ call (Append true 0 0) ∷ call Free ∷ [];
      told = "0 0, 0 1, 0 2, 0 5, 0 0 x2, 0 x34, 2 x160, 0, 0 4, 2 x2, 0 x65, 0 0, 3, 0 1,";
      left = "0: shift 0 tree - tail 0; 1: shift 5 tree B[32 32] tail 1; 2: shift 0 tree 32 tail 1;";
    }
    ∷
    record {
      blocks = 8;
      moves = call (Open 0 8) ∷ call (Open 0 7) ∷ call (Open 0 1) ∷ pops 1 2 ∷ pushes 33 2 1 ∷ call (Close 3) ∷ call (Close 0) ∷ pops 33 4 ∷ pushes 64 2 34 ∷ call (Append true 1 2) ∷ pushes 64 4 98 ∷ call (Open 2 6) ∷ pushes 33 2 162 ∷ call (Open 1 7) ∷ pushes 32 0 195 ∷ call Free ∷ [];
      told = "0 0, 0 1, 0 2, 4, 0 x33, 2, 0, 2 x33, 0 x30, 5 x34, 0, 2 x64, 0 0, 0 x33, 0 3, 0 x32, 0 5,";
      left = "0: shift 0 tree 32 tail 0; 1: shift 0 tree 32 tail 31; 2: shift 0 tree 32 tail 1; 3: shift 0 tree - tail 0;";
    }
    ∷
    record {
      blocks = 3;
      moves = call (Open 1 3) ∷ call (Open 0 2) ∷ call (Open 1 2) ∷ call (Open 0 3) ∷ pushes 33 2 1 ∷ pushes 32 4 34 ∷ pushes 33 1 66 ∷ pushes 32 4 99 ∷ call (Append true 0 1) ∷ pushes 31 3 131 ∷ call (Open 1 1) ∷ pushes 32 4 162 ∷ pushes 64 2 194 ∷ pushes 32 2 258 ∷ call (Close 0) ∷ call Free ∷ [];
      told = "0 0, 0 1, 0 2, 0 3, 0 x33, 2 x32, 0 x33, 2 x32, 0 x32, 8, 2 x32, 0 x30, 5 x66, 0, 0 2,";
      left = "1: shift 0 tree - tail 0; 2: shift 0 tree 32 tail 31; 3: shift 0 tree - tail 31;";
    }
    ∷
    record {
      blocks = 3;
      moves = call (Open 0 2) ∷ call (Open 0 1) ∷ call (Open 1 2) ∷ pops 1 1 ∷ pushes 31 0 1 ∷ call (Append true 0 1) ∷ call (Append true 0 1) ∷ pushes 33 1 32 ∷ pushes 33 1 65 ∷ pops 33 2 ∷ pushes 31 0 98 ∷ call Free ∷ call (Held 0) ∷ call (Length 0) ∷ pushes 64 0 129 ∷ call (Open 2 0) ∷ call Free ∷ call (Held 1) ∷ call (Length 1) ∷ call Free ∷ [];
      told = "0 0, 0 1, 0 2, 4, 0 x96, 5 x3, 4 x33, 0 x31, 0 1 x2, 0 62, 0, 5 x63, 9, 0 1 x2, 0 63, 0 1,";
      left = "0: shift 0 tree 32 tail 31; 1: shift 0 tree 32 tail 31; 2: shift 0 tree - tail 0;";
    }
    ∷
    record {
      blocks = 8;
      moves = call (Open 0 8) ∷ call (Open 1 6) ∷ call (Open 1 1) ∷ pushes 31 1 1 ∷ pushes 64 1 32 ∷ call (Open 0 2) ∷ pops 1 4 ∷ call Free ∷ call (Held 3) ∷ call (Length 3) ∷ call Free ∷ call (Held 1) ∷ call (Length 1) ∷ pushes 31 0 96 ∷ pushes 64 4 127 ∷ pushes 32 2 191 ∷ call (Append true 2 1) ∷ call Free ∷ call (Held 1) ∷ call (Length 1) ∷ pushes 32 1 223 ∷ call Free ∷ [];
      told = "0 0, 0 1, 0 2, 0 x95, 0 3, 2, 0 5, 0 0 x2, 0 5, 0 3, 0 95, 0 x31, 2 x64, 0 x32, 5, 0 4, 0 3, 0 95, 0 x32, 0 3,";
      left = "0: shift 0 tree - tail 31; 1: shift 5 tree B[32 32 32] tail 31; 2: shift 0 tree 32 tail 0; 3: shift 0 tree - tail 0;";
    }
    ∷
    record {
      blocks = 8;
      moves = call (Open 0 7) ∷ call (Open 1 2) ∷ call (Open 0 8) ∷ call (Append true 4 2) ∷ call (Close 0) ∷ call (Close 0) ∷ pops 33 2 ∷ call (Append true 0 1) ∷ call (Append true 2 0) ∷ pops 1 0 ∷ pushes 33 1 1 ∷ call (Append true 4 1) ∷ pushes 31 1 34 ∷ pops 33 0 ∷ call (Append true 2 1) ∷ call Free ∷ [];
      told = "0 0, 0 1, 0 2, 2, 0, 2, 4 x33, 2 x3, 0 x33, 2, 0 x30, 5, 2 x33, 0, 0 7,";
      left = "1: shift 0 tree - tail 0; 2: shift 0 tree 32 tail 31;";
    }
    ∷ []
