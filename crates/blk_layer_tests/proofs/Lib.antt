mod Seated
