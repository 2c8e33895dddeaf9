mod MoversAreThose
mod OneMore
mod TextOfReplay
mod TurnsAreShown
mod WhatIsGot
mod WhoWouldMove
